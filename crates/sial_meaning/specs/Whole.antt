-- Arrays as wholes: finite maps from positions, counted from 1 in each dimension, to numbers.
use Rattle.std.specs.Prelude.{ℕ, List, [], ◌∷◌, map, zip, Option, Some, None}
use Rattle.std.specs.Cmp.Lexicographic.{slice_cmp}
use Rattle.std.specs.FinMap as finite
use Rattle.std.specs.List.{flat_map, enumerate_from}
use Rattle.std.specs.Ordering.{nat_cmp}
use Rattle.sial_syntax.specs.Boxes.{tuples}
use Rattle.sial_syntax.specs.Spaces.{Spaces, Extent, Span, Segments, Pieces, span_of, kind_of, segment, piece_of, numbers_at}
use Rattle.sial_meaning.specs.LocalStep.{whole_positions}
use Rattle.sial_meaning.specs.Own.{Held}
use Rattle.sial_meaning.specs.Setting.{Setting, dims_of}
use Rattle.sial_meaning.specs.Sight.{lengths}

-- an array as a whole: a number for each of some tuples of positions
abbrev pub Whole : Type 0
Whole = finite.FinMap (slice_cmp nat_cmp) ℕ

-- the positions of a block on these extents, in the order of its list
abbrev pub positions_on : List Extent → List (List ℕ)
positions_on extents = map (whole_positions extents) (tuples (lengths extents))

-- what a block on these extents says of the whole: a number for each of its positions
abbrev pub entries_on : List Extent → (words : List ℕ) → List (List ℕ × ℕ)
entries_on extents words = zip (positions_on extents) words

-- where the block of these segments lies
abbrev pub extents_of : Spaces → (dims numbers : List ℕ) → List Extent
extents_of spaces [] numbers = []
extents_of spaces (i ∷ is) [] = []
extents_of spaces (i ∷ is) (n ∷ ns) = segment spaces (kind_of spaces i) n ∷ extents_of spaces is ns

-- where a block of an array lies, by its number within the array
abbrev pub block_extents : Setting → (array number : ℕ) → List Extent
block_extents g array number = extents_of g.spaces (dims_of g array) (numbers_at g.spaces (dims_of g array) number)

-- the positions of a block of an array
abbrev pub block_positions : Setting → (array number : ℕ) → List (List ℕ)
block_positions g array number = positions_on (block_extents g array number)

-- an array as a whole, its blocks in box order; a block that isn't there is the empty list
abbrev pub whole_array : Setting → (array : ℕ) → List (List ℕ) → Whole
whole_array g array blocks =
    finite.from_entries (flat_map (λ (b : ℕ × List ℕ). entries_on (block_extents g array b.0) b.1) (enumerate_from 0 blocks))

-- where one dimension of a temp's block lies: on a segment, or on a piece of a segment
abbrev pub member_extent : Spaces → (index : ℕ) → Span → ℕ × ℕ → Extent
member_extent spaces index (Segments kind first count) member = segment spaces kind member.0
member_extent spaces index (Pieces super) member = piece_of spaces index member.0 member.1

-- where a temp's block lies
abbrev pub held_extents : Spaces → (dims : List ℕ) → List (ℕ × ℕ) → List Extent
held_extents spaces [] members = []
held_extents spaces (i ∷ is) [] = []
held_extents spaces (i ∷ is) (m ∷ ms) = member_extent spaces i (span_of spaces i) m ∷ held_extents spaces is ms

-- a temp as a whole: nothing, or its one block
abbrev pub whole_temp : Setting → (array : ℕ) → Option Held → Whole
whole_temp g array None = finite.from_entries []
whole_temp g array (Some held) = finite.from_entries (entries_on (held_extents g.spaces (dims_of g array) held.members) held.words)
