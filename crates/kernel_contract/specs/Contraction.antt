-- The contraction of two lists of numbers along shared axes, into a third list.
use Rattle.std.specs.Prelude.{ℕ, ◌≡◌, ◌≢◌, ◌+◌, ◌*◌, ◌%◌, ◌^◌, ◌<◌, List, length, slice_index}
use Rattle.kernel_permute.specs.How.{combined}
use Rattle.kernel_permute.specs.declared.how.How.{How}
use Rattle.kernel_contract.specs.declared.axis.Axis.{Axis}
use Rattle.kernel_contract.specs.Positions.{IsPosition, offset_a, offset_b, offset_to, sum_over}

-- where the number for the free positions `f` and `g` stands in the target
abbrev pub target : List Axis → List Axis → List ℕ → List ℕ → ℕ
target free_a free_b f g = offset_to free_a f + offset_to free_b g

-- the number of `a` at the positions `f` and `s`, times that of `b` at `g` and `s`
abbrev pub product_at : List ℕ → List ℕ → List Axis → List Axis → List Axis → List ℕ → List ℕ → List ℕ → ℕ
product_at a b free_a free_b shared f g s =
    slice_index a (offset_a free_a f + offset_a shared s) * slice_index b (offset_b free_b g + offset_b shared s)

-- the sum of these products over all shared positions, modulo 2^64
abbrev pub value : List ℕ → List ℕ → List Axis → List Axis → List Axis → List ℕ → List ℕ → ℕ
value a b free_a free_b shared f g = sum_over shared (product_at a b free_a free_b shared f g) % 2 ^ 64

-- all positions lie in lists of these lengths, and no two of the target's are one
pub record Fits (a b to : ℕ) (free_a free_b shared : List Axis) : Type 0 where
  pub in_a : (f g s : List ℕ) → IsPosition free_a f → IsPosition free_b g → IsPosition shared s
      → offset_a free_a f + offset_a shared s < a
  pub in_b : (f g s : List ℕ) → IsPosition free_a f → IsPosition free_b g → IsPosition shared s
      → offset_b free_b g + offset_b shared s < b
  pub in_to : (f g : List ℕ) → IsPosition free_a f → IsPosition free_b g → target free_a free_b f g < to
  pub differ : (f g h k : List ℕ) → IsPosition free_a f → IsPosition free_b g → IsPosition free_a h → IsPosition free_b k
      → target free_a free_b f g ≡ target free_a free_b h k → (f ≡ h) × (g ≡ k)

-- each target position has met its value, and the others are as before
pub record Contracted (a b old new : List ℕ) (free_a free_b shared : List Axis) (how : How) : Type 0 where
  pub named : (f g : List ℕ) → IsPosition free_a f → IsPosition free_b g
      → slice_index new (target free_a free_b f g)
      ≡ combined how (slice_index old (target free_a free_b f g)) (value a b free_a free_b shared f g)
  pub others : (k : ℕ) → ((f g : List ℕ) → IsPosition free_a f → IsPosition free_b g → target free_a free_b f g ≢ k)
      → slice_index new k ≡ slice_index old k
  pub len : length new ≡ length old
