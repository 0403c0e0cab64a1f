-- Positions by number, the last axis first, and how far a walk over them has come.
use Rattle.std.specs.Prelude.{ℕ, ◌≡◌, ◌+◌, ◌*◌, ◌/◌, ◌%◌, ◌^◌, ◌<◌, ◌≤◌, List, [], ◌∷◌, if◌then◌else◌, Bool, true, nat_lt}
use Rattle.std.specs.Prelude.{slice_index}
use Rattle.kernel_contract.specs.Positions.{IsPosition, offset_a, offset_b, offset_to}
use Rattle.kernel_contract.specs.declared.axis.Axis.{Axis}
use Rattle.kernel_contract.specs.declared.walk.Offsets.{Offsets}
use Rattle.kernel_contract.specs.declared.run.Run.{Run}
use Rattle.kernel_contract.specs.declared.walk.Walk.{Walk}

-- whether an axis has any number
abbrev pub is_long : Axis → Bool
is_long x = nat_lt 0 x.len

-- how many positions there are
abbrev pub count : List Axis → ℕ
count [] = 1
count (x ∷ xs) = x.len * count xs

-- a position's number, where the last axis runs fastest
abbrev pub number : List Axis → List ℕ → ℕ
number [] position = 0
number (x ∷ xs) [] = 0
number (x ∷ xs) (n ∷ ns) = n * count xs + number xs ns

-- the position with a number
abbrev pub position_at : List Axis → ℕ → List ℕ
position_at [] k = []
position_at (x ∷ xs) k = k / count xs ∷ position_at xs (k % count xs)

-- these are the offsets of a position, modulo 2^64
pub record AreOffsets (axes : List Axis) (position : List ℕ) (at : Offsets) : Type 0 where
  pub a : at.a ≡ offset_a axes position % 2 ^ 64
  pub b : at.b ≡ offset_b axes position % 2 ^ 64
  pub to : at.to ≡ offset_to axes position % 2 ^ 64

-- how many positions a walk has left behind
abbrev pub gone : {R : ℕ} → List Axis → Walk R → ℕ
gone axes walk = if walk.left then number axes walk.at else count axes

-- a walk that has not ended stands at a position, with its offsets
pub record Stands {R : ℕ} (axes : List Axis) (walk : Walk R) : Type 0 where
  pub position : walk.left ≡ true → IsPosition axes walk.at
  pub offsets : walk.left ≡ true → AreOffsets axes walk.at walk.offsets

-- the first position's offsets in the sources fill the rest of the arrays
pub record IsFilled {N : ℕ} (run : Run N) : Type 0 where
  pub a : (i : ℕ) → run.len ≤ i → i < N → slice_index run.a i ≡ slice_index run.a 0
  pub b : (i : ℕ) → run.len ≤ i → i < N → slice_index run.b i ≡ slice_index run.b 0

-- the offsets of up to `N` positions, from the one with this number on, modulo 2^64; the first fills the rest
pub record IsRun {N : ℕ} (axes : List Axis) (first : ℕ) (run : Run N) : Type 0 where
  pub some : 0 < run.len
  pub len : run.len ≤ N
  pub a : (i : ℕ) → i < run.len → slice_index run.a i ≡ offset_a axes (position_at axes (first + i)) % 2 ^ 64
  pub b : (i : ℕ) → i < run.len → slice_index run.b i ≡ offset_b axes (position_at axes (first + i)) % 2 ^ 64
  pub to : (i : ℕ) → i < run.len → slice_index run.to i ≡ offset_to axes (position_at axes (first + i)) % 2 ^ 64
  pub filled : IsFilled run
