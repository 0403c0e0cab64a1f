-- Blocks and whole arrays say the same: a block's list is the map at the block's positions.
use Rattle.std.specs.Prelude.{◌≡◌, ℕ, ◌<◌, List, [], map, length, slice_index_or, Some, None}
use Rattle.std.specs.FinMap as finite
use Rattle.std.specs.List.{Contains}
use Rattle.sial_syntax.specs.Boxes.{volume}
use Rattle.sial_meaning.specs.Own.{Held}
use Rattle.sial_meaning.specs.Setting.{Setting, dims_of, block_count, block_words}
use Rattle.sial_meaning.specs.Sight.{lengths}
use Rattle.sial_meaning.specs.Sound.{IsSound}
use Rattle.sial_meaning.specs.Whole.{block_positions, whole_array, positions_on, held_extents, whole_temp}

-- no position lies in two blocks of an array
abbrev pub BlocksAreApart : Type 0
BlocksAreApart =
    (g : Setting) (array one other : ℕ) (position : List ℕ)
    → IsSound g → one < block_count g array → other < block_count g array
    → Contains (block_positions g array one) position → Contains (block_positions g array other) position → one ≡ other

-- a block's list is the map at its positions
abbrev pub BlocksAreTheMap : Type 0
BlocksAreTheMap =
    (g : Setting) (array number : ℕ) (blocks : List (List ℕ))
    → IsSound g → length blocks ≡ block_count g array → number < length blocks
    → length (slice_index_or blocks number []) ≡ block_words g array number
    → map (finite.get (whole_array g array blocks)) (block_positions g array number) ≡ map Some (slice_index_or blocks number [])

-- at the positions of a block that isn't there the map has nothing
abbrev pub AbsentBlocksAreNotThere : Type 0
AbsentBlocksAreNotThere =
    (g : Setting) (array number : ℕ) (blocks : List (List ℕ))
    → IsSound g → length blocks ≡ block_count g array → number < length blocks
    → slice_index_or blocks number [] ≡ []
    → map (finite.get (whole_array g array blocks)) (block_positions g array number) ≡ map (λ position. None) (block_positions g array number)

-- the map has nothing but the positions of the array's blocks
abbrev pub NothingElseIsThere : Type 0
NothingElseIsThere =
    (g : Setting) (array n : ℕ) (blocks : List (List ℕ)) (position : List ℕ)
    → finite.get (whole_array g array blocks) position ≡ Some n
    → (number : ℕ) × (number < length blocks) × Contains (block_positions g array number) position

-- the list of a temp's block is the map at its positions
abbrev pub HeldBlocksAreTheMap : Type 0
HeldBlocksAreTheMap =
    (g : Setting) (array : ℕ) (held : Held)
    → length held.words ≡ volume (lengths (held_extents g.spaces (dims_of g array) held.members))
    → map (finite.get (whole_temp g array (Some held))) (positions_on (held_extents g.spaces (dims_of g array) held.members)) ≡ map Some held.words
