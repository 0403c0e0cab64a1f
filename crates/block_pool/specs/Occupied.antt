-- How the slots of a class stand in a slab.
use Rattle.std.specs.Prelude.{◌≡◌, ℕ, ◌+◌, ◌<◌, ◌≤◌, ◌^◌, ◌==◌, List, [], ◌∷◌, length, is_some, slice_index, slice_index_or, slice_set, not}
use Rattle.slab.specs.Slab.{Slab, get, slab_len}
use Rattle.block_pool.specs.declared.state.State.{State}
use Rattle.block_pool.specs.declared.slots.Group.{Group}
use Rattle.block_pool.specs.Memory.{state_at, is_free, free_slots, one_if}
use Rattle.block_pool.specs.Surplus.{HoldsSurplus}

-- slot by slot its class and its state
pub record Occupied : Type 0 where
  pub classes : List ℕ
  pub states : List State

-- a state now stands at one slot
abbrev pub with_state : Occupied → ℕ → State → Occupied
with_state o slot s = record o { states = slice_set o.states slot s }

-- the group of a class
abbrev pub group_at : List Group → ℕ → Group
group_at gs g = slice_index_or gs g (record { first = 0; count = 0; table = record { slots = []; vacant_key = 0; capacity = 0 } })

-- where the slots of a class begin
abbrev pub first_of : List Group → ℕ → ℕ
first_of gs g = (group_at gs g).first

-- their slab
abbrev pub table_of : List Group → ℕ → Slab (Unit {0})
table_of gs g = (group_at gs g).table

-- how many there are
abbrev pub room_of : List Group → ℕ → ℕ
room_of gs g = (group_at gs g).count

-- a slot is one of a group's
pub record IsIn (gs : List Group) (g slot : ℕ) : Type 0 where
  pub known : g < length gs
  pub from : first_of gs g ≤ slot
  pub to : slot < first_of gs g + room_of gs g

-- how many slots are of a class
abbrev pub members : ℕ → List ℕ → ℕ
members g [] = 0
members g (c ∷ cs) = one_if (c == g) + members g cs

-- each class has its slots in one run; of the keys of its slab those of free slots are vacant, and no others
pub record IsTied (gs : List Group) (classes : List ℕ) (states : List State) : Type 0 where
  pub listed : length states ≡ length classes
  pub home : (slot : ℕ) → slot < length classes → IsIn gs (slice_index classes slot) slot
  pub within : (g k : ℕ) → g < length gs → k < room_of gs g → first_of gs g + k < length classes
  pub named : (g k : ℕ) → g < length gs → k < room_of gs g → slice_index classes (first_of gs g + k) ≡ g
  pub taken : (g k : ℕ) → g < length gs → k < room_of gs g → is_some (get (table_of gs g) k) ≡ not (is_free (state_at states (first_of gs g + k)))
  pub surplus : (g : ℕ) → g < length gs → HoldsSurplus (table_of gs g) (room_of gs g)
  pub count : (g : ℕ) → g < length gs → slab_len (table_of gs g) + free_slots g classes states ≡ (table_of gs g).capacity
  pub fits : (g : ℕ) → g < length gs → members g classes < 2 ^ 32
