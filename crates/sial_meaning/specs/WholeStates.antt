-- States whose arrays are whole: every block that is there has as many elements as positions.
use Rattle.std.specs.Prelude.{◌≡◌, ℕ, ◌+◌, ◌<◌, List, [], map, length, Bool, true, false, slice_index_or, Option, Some, None}
use Rattle.std.specs.FinMap as finite
use Rattle.sial_syntax.specs.declared.access.Class.TheVariants as class
use Rattle.sial_syntax.specs.declared.array.ArrayKind.{ArrayKind}
use Rattle.sial_syntax.specs.declared.array.ArrayKind.TheVariants.{Static, Temp, Local, Distributed, Served}
use Rattle.sial_syntax.specs.Boxes.{volume}
use Rattle.sial_syntax.specs.Spaces.{blocks_together}
use Rattle.sial_meaning.specs.Meaning.{meaning}
use Rattle.sial_meaning.specs.Own.{Own, Held, for_each, static_block, temp_of, local_block, is_created}
use Rattle.sial_meaning.specs.Step.{Stepped, Moved, Halted, Ended, steps, start_work}
use Rattle.sial_meaning.specs.Setting.{Setting, array_kind, dims_of, block_count, block_words, first_of_class}
use Rattle.sial_meaning.specs.Sight.{lengths}
use Rattle.sial_meaning.specs.Sound.{IsSound}
use Rattle.sial_meaning.specs.State.{State, shared_block}
use Rattle.sial_meaning.specs.Statement.{Outcome, Went, Stopped, Reading}
use Rattle.sial_meaning.specs.Whole.{block_positions, whole_array, positions_on, held_extents, whole_temp}

-- what a worker holds: a number for each index, a flag for each array, and blocks with as many elements as positions
pub record OwnIsWhole (g : Setting) (own : Own) : Type 0 where
  pub values : length own.values ≡ length g.program.indices
  pub created : length own.created ≡ length g.program.arrays
  pub static_rows : length own.statics ≡ length g.program.arrays
  pub temp_rows : length own.temps ≡ length g.program.arrays
  pub local_rows : length own.locals ≡ length g.program.arrays
  pub count : (array : ℕ) → array_kind g array ≡ Static → length (slice_index_or own.statics array []) ≡ block_count g array
  pub statics : (array number : ℕ) → array_kind g array ≡ Static → number < block_count g array → length (static_block own array number) ≡ block_words g array number
  pub temps : (array : ℕ) (held : Held) → temp_of own array ≡ Some held → length held.words ≡ volume (lengths (held_extents g.spaces (dims_of g array) held.members))
  pub locals : (array number : ℕ) (words : List ℕ) → local_block own array number ≡ Some words → length words ≡ block_words g array number

-- the elements of a block of a distributed array: none where the array isn't created
abbrev pub words_if : (created : Bool) → ℕ → ℕ
words_if true words = words
words_if false words = 0

-- the blocks of all distributed arrays: those of created arrays are there and as long as they should be, and no others are
pub record DistributedIsWhole (g : Setting) (created : List Bool) (blocks : List (List ℕ)) : Type 0 where
  pub count : length blocks ≡ blocks_together g.spaces Distributed g.program.arrays
  pub words : (array number : ℕ) → array_kind g array ≡ Distributed → number < block_count g array
      → length (slice_index_or blocks (first_of_class g array + number) []) ≡ words_if (slice_index_or created array false) (block_words g array number)

-- the blocks of all served arrays, each as long as it should be
pub record ServedIsWhole (g : Setting) (blocks : List (List ℕ)) : Type 0 where
  pub count : length blocks ≡ blocks_together g.spaces Served g.program.arrays
  pub words : (array number : ℕ) → array_kind g array ≡ Served → number < block_count g array → length (slice_index_or blocks (first_of_class g array + number) []) ≡ block_words g array number

-- a state whose blocks are all as long as they should be, those of the copies too
pub record IsWhole (g : Setting) (s : State) : Type 0 where
  pub own : OwnIsWhole g s.own
  pub distributed : DistributedIsWhole g s.own.created s.shared.distributed
  pub served : ServedIsWhole g s.shared.served
  pub distributed_copies : DistributedIsWhole g s.own.created s.copies.distributed
  pub served_copies : ServedIsWhole g s.copies.served

-- steps led to work in this state, or to a trap in it
abbrev pub StandsAt : Stepped → State → Type 0
StandsAt (Moved w) s = w.state ≡ s
StandsAt (Halted trap t) s = t ≡ s
StandsAt Ended s = ⊥

-- a state that some number of steps leads to from the program's start, whichever blocks its reads see
abbrev pub IsReached : Setting → State → Type 0
IsReached g s = (reading : Reading) × (count : ℕ) × StandsAt (steps reading g count (start_work g)) s

-- the state of an outcome
abbrev pub state_of : Outcome → State
state_of (Went s) = s
state_of (Stopped trap s) = s

-- the state in which a program ends or traps is one of them
abbrev pub OutcomesAreReached : Type 0
OutcomesAreReached = (reading : Reading) (g : Setting) → IsSound g → IsReached g (state_of (meaning reading g))

-- each of these states is whole
abbrev pub ReachedStatesAreWhole : Type 0
ReachedStatesAreWhole = (g : Setting) (s : State) → IsSound g → IsReached g s → IsWhole g s

-- a block that may not be there, as the empty list where it isn't
abbrev pub words_or_none : Option (List ℕ) → List ℕ
words_or_none None = []
words_or_none (Some words) = words

-- the blocks of an array that a state has, those that aren't there as empty lists; a temp's stands elsewhere
abbrev pub blocks_in : Setting → State → (array : ℕ) → ArrayKind → List (List ℕ)
blocks_in g s array Static = slice_index_or s.own.statics array []
blocks_in g s array Temp = []
blocks_in g s array Local = for_each (block_count g array) (λ n. words_or_none (local_block s.own array n))
blocks_in g s array Distributed = for_each (block_count g array) (λ n. shared_block s.shared class.Distributed (first_of_class g array + n))
blocks_in g s array Served = for_each (block_count g array) (λ n. shared_block s.shared class.Served (first_of_class g array + n))

-- whether a state has all blocks of an array
abbrev pub has_blocks : State → (array : ℕ) → ArrayKind → Bool
has_blocks s array Static = true
has_blocks s array Temp = false
has_blocks s array Local = false
has_blocks s array Distributed = is_created s.own array
has_blocks s array Served = true

-- in each of these states, the list of each block of such an array is the array's map at the block's positions
abbrev pub BlocksOfStatesAreTheMap : Type 0
BlocksOfStatesAreTheMap =
    (g : Setting) (s : State) (array number : ℕ)
    → IsSound g → IsReached g s → has_blocks s array (array_kind g array) ≡ true → number < block_count g array
    → map (finite.get (whole_array g array (blocks_in g s array (array_kind g array)))) (block_positions g array number)
    ≡ map Some (slice_index_or (blocks_in g s array (array_kind g array)) number [])

-- so is the list of each block of a local array that is allocated
abbrev pub LocalsOfStatesAreTheMap : Type 0
LocalsOfStatesAreTheMap =
    (g : Setting) (s : State) (array number : ℕ) (words : List ℕ)
    → IsSound g → IsReached g s → array_kind g array ≡ Local → number < block_count g array → local_block s.own array number ≡ Some words
    → map (finite.get (whole_array g array (blocks_in g s array Local))) (block_positions g array number) ≡ map Some words

-- at the positions of one that isn't the map has nothing
abbrev pub AbsentLocalsAreNotThere : Type 0
AbsentLocalsAreNotThere =
    (g : Setting) (s : State) (array number : ℕ)
    → IsSound g → IsReached g s → array_kind g array ≡ Local → number < block_count g array → local_block s.own array number ≡ None
    → map (finite.get (whole_array g array (blocks_in g s array Local))) (block_positions g array number) ≡ map (λ position. None) (block_positions g array number)

-- and so is the list of the block that a temp holds
abbrev pub TempsOfStatesAreTheMap : Type 0
TempsOfStatesAreTheMap =
    (g : Setting) (s : State) (array : ℕ) (held : Held)
    → IsSound g → IsReached g s → temp_of s.own array ≡ Some held
    → map (finite.get (whole_temp g array (Some held))) (positions_on (held_extents g.spaces (dims_of g array) held.members)) ≡ map Some held.words
