-- A part of a block taken out.
use Rattle.std.specs.Prelude.{ℕ, ◌+◌, ◌≤◌, List, [], ◌∷◌, slice_index}
use Rattle.kernel_permute.specs.declared.how.How.{How}
use Rattle.kernel_permute.specs.How.{combined}
use Rattle.kernel_permute.specs.Positions.{place, each_number}

-- in each dimension the part of this size, which begins there, lies within the block
abbrev pub IsPart : List ℕ → List ℕ → List ℕ → Type 0
IsPart [] [] [] = Unit {0}
IsPart (at ∷ ats) (size ∷ sizes) (dim ∷ dims) = (at + size ≤ dim) × IsPart ats sizes dims
IsPart _ _ _ = ⊥

-- the position in the block that the position in the part stands for
abbrev pub shifted : List ℕ → List ℕ → List ℕ
shifted [] ys = []
shifted (at ∷ ats) [] = []
shifted (at ∷ ats) (y ∷ ys) = (at + y) ∷ shifted ats ys

-- the target, in which the number at y has met the source's at `at + y`
abbrev pub sliced : How → List ℕ → List ℕ → List ℕ → List ℕ → List ℕ → List ℕ
sliced how dims at size from old =
    each_number (λ y number. combined how number (slice_index from (place dims (shifted at y)))) size old
