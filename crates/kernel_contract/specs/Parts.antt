-- What one part of a contraction reads and writes, by offsets.
use Rattle.std.specs.Prelude.{ℕ, ◌≡◌, ◌≢◌, ◌+◌, ◌*◌, ◌%◌, ◌^◌, ◌<◌, List, length, slice_index}
use Rattle.kernel_permute.specs.How.{combined}
use Rattle.kernel_permute.specs.declared.how.How.{How}
use Rattle.kernel_contract.specs.declared.axis.Axis.{Axis}
use Rattle.kernel_contract.specs.Walks.{position_at}
use Rattle.kernel_contract.specs.Positions.{IsPosition, offset_a, offset_b, sum_over}

-- from an offset on, all positions lie in a list of this length
abbrev pub Reaches : (List Axis → List ℕ → ℕ) → List Axis → ℕ → ℕ → Type 0
Reaches offset_of axes from len = (s : List ℕ) → IsPosition axes s → (from + offset_of axes s) % 2 ^ 64 < len

-- the sum, over all positions, of `a` from one offset on times `b` from another on, modulo 2^64
abbrev pub sum_from : List ℕ → List ℕ → List Axis → ℕ → ℕ → ℕ
sum_from a b axes from_a from_b =
    sum_over axes (λ s. slice_index a ((from_a + offset_a axes s) % 2 ^ 64) * slice_index b ((from_b + offset_b axes s) % 2 ^ 64)) % 2 ^ 64

-- from these offsets on, the product at the position with a number
abbrev pub term_at : List ℕ → List ℕ → List Axis → (from_a from_b number : ℕ) → ℕ
term_at a b axes from_a from_b k =
    slice_index a ((from_a + offset_a axes (position_at axes k)) % 2 ^ 64) * slice_index b ((from_b + offset_b axes (position_at axes k)) % 2 ^ 64)

-- the targets of the first `m` rows and `n` columns lie in a list of this length, and no two are one
pub record AreTargets (target : ℕ → ℕ → ℕ) (m n len : ℕ) : Type 0 where
  pub within : (i j : ℕ) → i < m → j < n → target i j < len
  pub differ : (i j k l : ℕ) → i < m → j < n → k < m → l < n → target i j ≡ target k l → (i ≡ k) × (j ≡ l)

-- each target of the first `m` rows and `n` columns has met its value, and the other numbers are as before
pub record Replaced (how : How) (target value : ℕ → ℕ → ℕ) (m n : ℕ) (old new : List ℕ) : Type 0 where
  pub named : (i j : ℕ) → i < m → j < n → slice_index new (target i j) ≡ combined how (slice_index old (target i j)) (value i j)
  pub others : (k : ℕ) → ((i j : ℕ) → i < m → j < n → target i j ≢ k) → slice_index new k ≡ slice_index old k
  pub len : length new ≡ length old
