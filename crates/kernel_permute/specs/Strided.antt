-- Numbers read along strides.
use Rattle.std.specs.Prelude.{ℕ, ◌+◌, ◌-◌, ◌*◌, List, [], ◌∷◌, map, slice_index, slice_set}
use Rattle.std.proofs.Common.{zero, suc}
use Rattle.kernel_permute.specs.declared.axis.Axis.{Axis}
use Rattle.kernel_permute.specs.declared.how.How.{How}
use Rattle.kernel_permute.specs.How.{combined}
use Rattle.kernel_permute.specs.Positions.{along}

-- the lengths of the axes
abbrev pub lengths : List Axis → List ℕ
lengths axes = map (λ axis. axis.len) axes

-- the strides of the axes
abbrev pub strides : List Axis → List ℕ
strides axes = map (λ axis. axis.stride) axes

-- how far the last position lies along the strides
abbrev pub reach : List Axis → ℕ
reach [] = 0
reach (axis ∷ axes) = (axis.len - 1) * axis.stride + reach axes

-- the number at a position, once it has met the source's number that lies so far from the base
abbrev pub met : How → List ℕ → ℕ → List ℕ → List ℕ → ℕ → ℕ
met how from base strides position number = combined how number (slice_index from (base + along strides position))

-- the row in which so many numbers, from one place on, have met the source's at their places
abbrev pub met_from : How → List ℕ → ℕ → ℕ → List ℕ → List ℕ
met_from how from zero i row = row
met_from how from (suc n) i row = met_from how from n (i + 1) (slice_set row i (combined how (slice_index row i) (slice_index from i)))
