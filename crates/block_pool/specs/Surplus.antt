-- The keys of a slab that has room for more than it was asked for.
use Rattle.std.specs.Prelude.{◌≡◌, ℕ, ◌+◌, ◌<◌, ◌≤◌, true, false, is_some}
use Rattle.slab.specs.Slab.{Slab, get, slab_len}

-- a slab has its surplus keys, those from a count on, all taken
abbrev pub HoldsSurplus : Slab (Unit {0}) → ℕ → Type 0
HoldsSurplus table count = (k : ℕ) → count ≤ k → k < table.capacity → is_some (get table k) ≡ true

-- the keys below a count are vacant, and no others
pub record IsVacantBelow (table : Slab (Unit {0})) (count : ℕ) : Type 0 where
  pub vacant : (k : ℕ) → k < count → is_some (get table k) ≡ false
  pub surplus : HoldsSurplus table count
  pub len : slab_len table + count ≡ table.capacity
