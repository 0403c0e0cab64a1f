-- Positions of the kernels are tuples of boxes, and blocks that agree at each tuple are one.
use Rattle.std.proofs.Common.{◌≡◌, ℕ, ◌+◌, ◌*◌, ◌<◌, List, [], ◌∷◌, length, get_or, refl, sym, ap, ◌∙◌, subst, arith}
use Rattle.std.proofs.lemmas.List.{ext_get_or}
use Rattle.kernel_permute.specs.Positions.{IsPosition, along, place, product, strides_of}
use Rattle.sial_syntax.specs.Boxes.{volume, place_of, tuple_at, IsTupleOf}
use Rattle.sial_syntax.proofs.BoxLemmas.{place-of-tuple, tuple-within}
use Rattle.exec_sides.specs.Named.{number_at}

-- as many positions as places
pub volume-is : (dims : List ℕ) → product dims ≡ volume dims
volume-is [] = refl
volume-is (d ∷ ds) = ap (λ v. d * v) (volume-is ds)

-- the place of a position is that of the tuple
pub place-is : (dims tuple : List ℕ) → place dims tuple ≡ place_of dims tuple
place-is [] tuple = refl
place-is (d ∷ ds) [] = refl
place-is (d ∷ ds) (k ∷ ks) = ap (λ v. k * v + along (strides_of ds) ks) (volume-is ds) ∙ ap (λ p. k * volume ds + p) (place-is ds ks)

-- a tuple is a position
pub position-is : (dims tuple : List ℕ) → IsTupleOf dims tuple → IsPosition dims tuple
position-is [] [] is = tt
position-is [] (k ∷ ks) is = absurd is
position-is (d ∷ ds) [] is = absurd is
position-is (d ∷ ds) (k ∷ ks) is = (is.0, position-is ds ks is.1)

-- a tuple has a member for each length
pub tuple-long : (dims tuple : List ℕ) → IsTupleOf dims tuple → length tuple ≡ length dims
tuple-long [] [] is = refl
tuple-long [] (k ∷ ks) is = absurd is
tuple-long (d ∷ ds) [] is = absurd is
tuple-long (d ∷ ds) (k ∷ ks) is = let rest : length ks ≡ length ds = tuple-long ds ks is.1 in omega (arith, rest)

-- two blocks that agree at each tuple
pub same-blocks : (dims xs ys : List ℕ) → length xs ≡ volume dims → length ys ≡ volume dims → ((tuple : List ℕ) → IsTupleOf dims tuple → number_at dims xs tuple ≡ number_at dims ys tuple) → xs ≡ ys
same-blocks dims xs ys long longer same =
    ext_get_or 0 xs ys (long ∙ sym longer) (λ i below.
    let inside : i < volume dims = omega (arith, below, long) in
    subst (λ p. get_or xs p 0 ≡ get_or ys p 0) (place-of-tuple dims i inside) (same (tuple_at dims i) (tuple-within dims i inside)))
