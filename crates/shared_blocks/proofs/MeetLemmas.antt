-- Accesses, element by element.
use Rattle.std.proofs.Common.{◌≡◌, ℕ, List, [], ◌∷◌, length, refl, ap, arith}
use Rattle.sial_syntax.specs.declared.access.Access.{Access}
use Rattle.sial_syntax.specs.declared.access.Access.TheVariants as access
use Rattle.sial_meaning.specs.Number.{accessed, plus}
use Rattle.sial_meaning.specs.State.{accessed_words}
use Rattle.block_math.specs.Elements as elements

-- a read leaves the words
pub read : (xs ys : List ℕ) → length xs ≡ length ys → accessed_words access.Read xs ys ≡ xs
read [] ys same = refl
read (x ∷ xs) [] same = absurd (omega (arith, same))
read (x ∷ xs) (y ∷ ys) same = ap (λ r. x ∷ r) (read xs ys (omega (arith, same)))

-- a store replaces them
pub stored : (xs ys : List ℕ) → length xs ≡ length ys → accessed_words access.Store xs ys ≡ ys
stored [] [] same = refl
stored [] (y ∷ ys) same = absurd (omega (arith, same))
stored (x ∷ xs) [] same = absurd (omega (arith, same))
stored (x ∷ xs) (y ∷ ys) same = ap (λ r. y ∷ r) (stored xs ys (omega (arith, same)))

-- sums
pub added : (xs ys : List ℕ) → elements.sums xs ys ≡ accessed_words access.Add xs ys
added [] ys = refl
added (x ∷ xs) [] = refl
added (x ∷ xs) (y ∷ ys) = ap (λ r. plus x y ∷ r) (added xs ys)

-- the greater of two
pub greater : (xs ys : List ℕ) → elements.greater xs ys ≡ accessed_words access.Max xs ys
greater [] ys = refl
greater (x ∷ xs) [] = refl
greater (x ∷ xs) (y ∷ ys) = ap (λ r. accessed access.Max x y ∷ r) (greater xs ys)

-- there are as many words after an access as before
pub met-long : (how : Access) (xs ys : List ℕ) → length ys ≡ length xs → length (accessed_words how xs ys) ≡ length xs
met-long how [] ys same = refl
met-long how (x ∷ xs) [] same = absurd (omega (arith, same))
met-long how (x ∷ xs) (y ∷ ys) same = let rest = met-long how xs ys (omega (arith, same)) in omega (arith, rest)

-- all of them
pub ruleset all = (read, stored, added, greater)
