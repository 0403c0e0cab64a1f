-- A part of a block put in.
use Rattle.std.specs.Prelude.{ℕ, ◌-◌, ◌+◌, Bool, true, false, ◌&&◌, nat_lt, nat_le, if◌then◌else◌, List, [], ◌∷◌, slice_index}
use Rattle.kernel_permute.specs.declared.how.How.{How}
use Rattle.kernel_permute.specs.How.{combined}
use Rattle.kernel_permute.specs.Positions.{place, each_number}

-- whether the position lies in the part of this size that begins there
abbrev pub is_in_part : List ℕ → List ℕ → List ℕ → Bool
is_in_part [] [] [] = true
is_in_part (at ∷ ats) (size ∷ sizes) (x ∷ xs) = nat_le at x && nat_lt x (at + size) && is_in_part ats sizes xs
is_in_part _ _ _ = false

-- the position in the part that the position in the block stands for
abbrev pub unshifted : List ℕ → List ℕ → List ℕ
unshifted [] xs = []
unshifted (at ∷ ats) [] = []
unshifted (at ∷ ats) (x ∷ xs) = (x - at) ∷ unshifted ats xs

-- the number at x, once it has met the source's at `x - at`; outside the part it stays
abbrev pub put : How → List ℕ → List ℕ → List ℕ → List ℕ → ℕ → ℕ
put how size from at x number = if is_in_part at size x then combined how number (slice_index from (place size (unshifted at x))) else number

-- the target, in which the number at `at + y` has met the source's at y, and the other numbers stay
abbrev pub inserted : How → List ℕ → List ℕ → List ℕ → List ℕ → List ℕ → List ℕ
inserted how size from dims at old = each_number (put how size from at) dims old
