-- The state of the sequential meaning: what the one worker holds, the shared blocks, epochs, printed lines and the log.
use Rattle.std.specs.Prelude.{ℕ, ◌+◌, List, [], ◌∷◌, ◌++◌, map, zip, replicate, length, slice_index_or, slice_set}
use Rattle.std.specs.List.{flat_map}
use Rattle.sial_syntax.specs.declared.access.Access.{Access}
use Rattle.sial_syntax.specs.declared.access.Class.{Class}
use Rattle.sial_syntax.specs.declared.access.Class.TheVariants as class
use Rattle.sial_syntax.specs.declared.array.ArrayKind.{ArrayKind}
use Rattle.sial_syntax.specs.declared.array.ArrayKind.TheVariants.{Distributed, Served}
use Rattle.sial_syntax.specs.declared.operand.BlockRef.{BlockRef}
use Rattle.sial_meaning.specs.Number.{accessed}
use Rattle.sial_meaning.specs.Setting.{Setting, array_kind, block_count, first_of_class, zeros}
use Rattle.sial_meaning.specs.Own.{Own, start_own, start_block, for_each, number_of}
use Rattle.sial_meaning.specs.Access.{Touch}

-- the blocks of all distributed and of all served arrays, by their numbers; a block that isn't there is the empty list
pub record Shared : Type 0 where
  pub distributed : List (List ℕ)
  pub served : List (List ℕ)

-- the epoch of each class, counted from 1
pub record Epochs : Type 0 where
  pub distributed : ℕ
  pub served : ℕ

-- the state; `copies` are the shared blocks as they stood when the present epoch of their class began
pub record State : Type 0 where
  pub own : Own
  -- the number of each partial scalar, and 0 for the others
  pub partials : List ℕ
  pub shared : Shared
  pub copies : Shared
  pub epochs : Epochs
  pub lines : List (List ℕ)
  pub log : List Touch

-- the blocks of a class
abbrev pub blocks_of_class : Shared → Class → List (List ℕ)
blocks_of_class shared class.Distributed = shared.distributed
blocks_of_class shared class.Served = shared.served

-- a shared block
abbrev pub shared_block : Shared → Class → (block : ℕ) → List ℕ
shared_block shared class block = slice_index_or (blocks_of_class shared class) block []

-- one class with other blocks
abbrev pub with_class : Shared → Class → List (List ℕ) → Shared
with_class shared class.Distributed blocks = record shared { distributed = blocks }
with_class shared class.Served blocks = record shared { served = blocks }

-- one shared block replaced
abbrev pub with_block : Shared → Class → (block : ℕ) → List ℕ → Shared
with_block shared class block words = with_class shared class (slice_set (blocks_of_class shared class) block words)

-- the elements of a block after an access with these elements
abbrev pub accessed_words : Access → (old words : List ℕ) → List ℕ
accessed_words how old words = map (λ (p : ℕ × ℕ). accessed how p.0 p.1) (zip old words)

-- the epoch of a class
abbrev pub epoch_of : Epochs → Class → ℕ
epoch_of epochs class.Distributed = epochs.distributed
epoch_of epochs class.Served = epochs.served

-- the next epoch of a class
abbrev pub next_epoch : Epochs → Class → Epochs
next_epoch epochs class.Distributed = record epochs { distributed = epochs.distributed + 1 }
next_epoch epochs class.Served = record epochs { served = epochs.served + 1 }

-- the state with another worker's part
abbrev pub with_own : State → Own → State
with_own s own = record s { own = own }

-- the state after an access was logged
abbrev pub logged : State → Class → (block : ℕ) → Access → (line : ℕ) → State
logged s class block kind line =
    record s { log = s.log ++ (record { class = class; epoch = epoch_of s.epochs class; block = block; kind = kind; line = line }) ∷ [] }

-- the state after an epoch of a class ended: the copies of the class are those of now
abbrev pub epoch_ended : Class → State → State
epoch_ended class s = record s {
  epochs = next_epoch s.epochs class;
  copies = with_class s.copies class (blocks_of_class s.shared class);
}

-- the number of a shared block among all blocks of its class
abbrev pub shared_number : Setting → Own → BlockRef → ℕ
shared_number g own block = first_of_class g block.array + number_of g own block

-- consecutive blocks of a list replaced
abbrev pub with_run : {X : Type 0} → (first : ℕ) → List X → List X → List X
with_run first [] xs = xs
with_run first (y ∷ ys) xs = with_run (first + 1) ys (slice_set xs first y)

-- all blocks of an array are zeros
abbrev pub with_zeros : Setting → (array : ℕ) → Class → Shared → Shared
with_zeros g array class shared =
    with_class shared class (with_run (first_of_class g array) (for_each (block_count g array) (zeros g array)) (blocks_of_class shared class))

-- all blocks of an array are taken away
abbrev pub without : Setting → (array : ℕ) → Class → Shared → Shared
without g array class shared =
    with_class shared class (with_run (first_of_class g array) (replicate (block_count g array) []) (blocks_of_class shared class))

-- the blocks of one array of a class as the program begins: served ones are there, distributed ones aren't
abbrev pub start_shared : Setting → Class → ℕ → ArrayKind → List (List ℕ)
start_shared g class.Distributed array Distributed = replicate (block_count g array) []
start_shared g class.Served array Served = for_each (block_count g array) (start_block g array)
start_shared g _ array _ = []

-- the blocks of a class as the program begins
abbrev pub start_blocks : Setting → Class → List (List ℕ)
start_blocks g class = flat_map (λ a. start_shared g class a (array_kind g a)) (for_each (length g.program.arrays) (λ a. a))

-- the state as the program begins
abbrev pub start_state : Setting → State
start_state g = record {
  own = start_own g;
  partials = replicate (length g.program.scalars) 0;
  shared = record { distributed = start_blocks g class.Distributed; served = start_blocks g class.Served };
  copies = record { distributed = start_blocks g class.Distributed; served = start_blocks g class.Served };
  epochs = record { distributed = 1; served = 1 };
  lines = [];
  log = [];
}
