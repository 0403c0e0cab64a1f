-- The definition on two matrices of two rows and two columns, 1 2 / 3 4 and 5 6 / 7 8.
use Rattle.std.proofs.Common.{◌≡◌, ℕ, List, [], ◌∷◌, refl}
use Rattle.kernel_permute.specs.How.{combined}
use Rattle.kernel_permute.specs.declared.how.How.TheVariants.{Add, Subtract}
use Rattle.kernel_contract.specs.Contraction.{target, value}
use Rattle.kernel_contract.specs.declared.axis.Axis.{Axis}

abbrev rows : List Axis
rows = record { len = 2; a = 2; b = 0; to = 2 } ∷ []

abbrev columns : List Axis
columns = record { len = 2; a = 0; b = 1; to = 1 } ∷ []

abbrev shared : List Axis
shared = record { len = 2; a = 1; b = 2; to = 0 } ∷ []

-- the number for a row and a column
abbrev number : ℕ → ℕ → ℕ
number i j = value (1 ∷ 2 ∷ 3 ∷ 4 ∷ []) (5 ∷ 6 ∷ 7 ∷ 8 ∷ []) rows columns shared (i ∷ []) (j ∷ [])

-- and where it stands
abbrev position : ℕ → ℕ → ℕ
position i j = target rows columns (i ∷ []) (j ∷ [])

products : (number 0 0 ∷ number 0 1 ∷ number 1 0 ∷ number 1 1 ∷ []) ≡ (19 ∷ 22 ∷ 43 ∷ 50 ∷ [])
products = refl

positions : (position 0 0 ∷ position 0 1 ∷ position 1 0 ∷ position 1 1 ∷ []) ≡ (0 ∷ 1 ∷ 2 ∷ 3 ∷ [])
positions = refl

added : combined Add 1 (number 1 1) ≡ 51
added = refl

subtracted : combined Subtract 0 (number 1 1) ≡ 18446744073709551566
subtracted = refl
