-- How the slots of the classes are laid out before any is taken.
use Rattle.std.specs.Prelude.{◌≡◌, ℕ, ◌+◌, ◌<◌, ◌^◌, List, length, slice_index}
use Rattle.block_pool.specs.declared.slots.Group.{Group}
use Rattle.block_pool.specs.Surplus.{IsVacantBelow}
use Rattle.block_pool.specs.Occupied.{IsIn, first_of, table_of, room_of, members}

-- each class has its slots in one run, and just their keys are vacant
pub record IsLaid (gs : List Group) (classes : List ℕ) : Type 0 where
  pub home : (slot : ℕ) → slot < length classes → IsIn gs (slice_index classes slot) slot
  pub within : (g k : ℕ) → g < length gs → k < room_of gs g → first_of gs g + k < length classes
  pub named : (g k : ℕ) → g < length gs → k < room_of gs g → slice_index classes (first_of gs g + k) ≡ g
  pub vacant : (g : ℕ) → g < length gs → IsVacantBelow (table_of gs g) (room_of gs g)
  pub count : (g : ℕ) → g < length gs → members g classes ≡ room_of gs g
  pub fits : (g : ℕ) → g < length gs → room_of gs g < 2 ^ 32
