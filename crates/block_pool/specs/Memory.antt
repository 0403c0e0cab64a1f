-- What a contract sees of a pool.
use Rattle.std.specs.Prelude.{ℕ, ◌+◌, Bool, true, false, ◌==◌, ◌&&◌, if◌then◌else◌, List, [], ◌∷◌, ◌++◌, length, drop, replicate, slice_index_or, slice_index, slice_set}
use Rattle.block_pool.specs.declared.state.State.{State}
use Rattle.block_pool.specs.declared.state.State.TheVariants.{Free, Owned, Awaiting, Cached, Sending, Lifted}

-- how many size classes there are
abbrev pub class_count : ℕ
class_count = 17

-- the last class, whose slots every class names in a pool of one width
abbrev pub last_class : ℕ
last_class = 16

-- slot by slot its class, its state and its words; for each class the one whose slots it names;
-- whether a slot is lifted; the widest class, and how wide a lifted slot is
pub record Memory : Type 0 where
  pub classes : List ℕ
  pub states : List State
  pub words : List (List ℕ)
  pub groups : List ℕ
  pub is_lifted : Bool
  pub widest : ℕ
  pub most : ℕ

-- the state of a slot; past the end a slot is free
abbrev pub state_at : List State → ℕ → State
state_at states slot = slice_index_or states slot Free

-- the words of a slot
abbrev pub words_at : List (List ℕ) → ℕ → List ℕ
words_at words slot = slice_index_or words slot []

-- the class whose slots a class names; one that no slot has where there is no such class
abbrev pub group_of : List ℕ → ℕ → ℕ
group_of groups class = slice_index_or groups class class_count

-- the class names the slot
abbrev pub names : Memory → ℕ → ℕ → Bool
names p class slot = slice_index p.classes slot == group_of p.groups class

-- a slot in this state stands in no lease
abbrev pub is_free : State → Bool
is_free Free = true
is_free Owned = false
is_free Awaiting = false
is_free Cached = false
is_free Sending = false
is_free Lifted = false

-- a slot counts among the free ones of a class
abbrev pub serves : State → ℕ → ℕ → Bool
serves s class group = (class == group) && is_free s

-- 1 where a test holds, else 0
abbrev pub one_if : Bool → ℕ
one_if b = if b then 1 else 0

-- how many slots of one class are free
abbrev pub free_slots : ℕ → List ℕ → List State → ℕ
free_slots group [] states = 0
free_slots group (c ∷ cs) [] = 0
free_slots group (c ∷ cs) (s ∷ ss) = one_if (serves s c group) + free_slots group cs ss

-- how many slots that a class names are free
abbrev pub free_in : Memory → ℕ → ℕ
free_in p class = free_slots (group_of p.groups class) p.classes p.states

-- as many words as before, with others at the front
abbrev pub with_front : List ℕ → List ℕ → List ℕ
with_front old new = new ++ drop (length new) old

-- as many zeros as a slot has words
abbrev pub zeros_at : Memory → ℕ → List ℕ
zeros_at p slot = replicate (length (words_at p.words slot)) 0

-- the pool with other words in a slot
abbrev pub with_words : Memory → ℕ → List ℕ → Memory
with_words p slot ws = record p { words = slice_set p.words slot ws }

-- a lifted slot and its words
pub record Apart : Type 0 where
  pub slot : ℕ
  pub words : List ℕ
