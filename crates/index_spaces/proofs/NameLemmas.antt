-- Names, byte by byte.
use Rattle.std.proofs.Common.{◌≡◌, ℕ, List, [], ◌∷◌, ◌&&◌, ◌==◌, refl, ap}
use Rattle.std.specs.Cmp.Lexicographic.{pointwise}
use Rattle.sial_syntax.specs.Agreeing.{same_list}

-- names are the same where their bytes are, pair by pair
pub same_by_pairs : (xs ys : List ℕ) → pointwise ◌==◌ xs ys ≡ same_list xs ys
same_by_pairs [] [] = refl
same_by_pairs [] (y ∷ ys) = refl
same_by_pairs (x ∷ xs) [] = refl
same_by_pairs (x ∷ xs) (y ∷ ys) = ap (λ b. (x == y) && b) (same_by_pairs xs ys)
