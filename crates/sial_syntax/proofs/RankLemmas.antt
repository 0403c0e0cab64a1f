-- Segment numbers, counted from the firsts of their indices and back.
use Rattle.std.proofs.Common.{◌≡◌, ℕ, ◌+◌, ◌-◌, List, [], ◌∷◌, refl, ap, ◌∙◌, arith}
use Rattle.sial_syntax.specs.Boxes.{place_of, tuple_at, IsTupleOf}
use Rattle.sial_syntax.specs.BoxLaws.{AreSegments, RankOfNumbers, NumbersOfRank, RankWithin, NumbersWithin}
use Rattle.sial_syntax.specs.Spaces.{Spaces, first_of, box_of, from_firsts, onto_firsts}
use Rattle.sial_syntax.proofs.BoxLemmas.{place-of-tuple, tuple-of-place, place-within, tuple-within}

-- segment numbers, counted from the firsts, are a tuple of the box
pub from-firsts-within : (spaces : Spaces) (indices numbers : List ℕ) → AreSegments spaces indices numbers → IsTupleOf (box_of spaces indices) (from_firsts spaces indices numbers)
from-firsts-within spaces [] [] are = tt
from-firsts-within spaces [] (n ∷ ns) are = absurd are
from-firsts-within spaces (i ∷ is) [] are = absurd are
from-firsts-within spaces (i ∷ is) (n ∷ ns) are = (omega (arith, are.0, are.1), from-firsts-within spaces is ns are.2)

-- counted from the firsts and back
pub onto-from : (spaces : Spaces) (indices numbers : List ℕ) → AreSegments spaces indices numbers → onto_firsts spaces indices (from_firsts spaces indices numbers) ≡ numbers
onto-from spaces [] [] are = refl
onto-from spaces [] (n ∷ ns) are = absurd are
onto-from spaces (i ∷ is) [] are = absurd are
onto-from spaces (i ∷ is) (n ∷ ns) are =
    let back : first_of spaces i + (n - first_of spaces i) ≡ n = omega (arith, are.0) in
    ap (λ m. m ∷ onto_firsts spaces is (from_firsts spaces is ns)) back ∙ ap (λ rest. n ∷ rest) (onto-from spaces is ns are.2)

-- a tuple of the box, taken from the firsts on, has numbers of the indices' segments
pub onto-firsts-within : (spaces : Spaces) (indices tuple : List ℕ) → IsTupleOf (box_of spaces indices) tuple → AreSegments spaces indices (onto_firsts spaces indices tuple)
onto-firsts-within spaces [] [] is = tt
onto-firsts-within spaces [] (k ∷ ks) is = absurd is
onto-firsts-within spaces (i ∷ rest) [] is = absurd is
onto-firsts-within spaces (i ∷ rest) (k ∷ ks) is = (omega arith, omega (arith, is.0), onto-firsts-within spaces rest ks is.1)

-- taken from the firsts on and counted back
pub from-onto : (spaces : Spaces) (indices tuple : List ℕ) → IsTupleOf (box_of spaces indices) tuple → from_firsts spaces indices (onto_firsts spaces indices tuple) ≡ tuple
from-onto spaces [] [] is = refl
from-onto spaces [] (k ∷ ks) is = absurd is
from-onto spaces (i ∷ rest) [] is = absurd is
from-onto spaces (i ∷ rest) (k ∷ ks) is =
    let back : (first_of spaces i + k) - first_of spaces i ≡ k = omega arith in
    ap (λ m. m ∷ from_firsts spaces rest (onto_firsts spaces rest ks)) back ∙ ap (λ tail. k ∷ tail) (from-onto spaces rest ks is.1)

-- a place is that of its segment numbers
pub rank-of-numbers : RankOfNumbers
rank-of-numbers spaces indices rank below =
    ap (place_of (box_of spaces indices)) (from-onto spaces indices (tuple_at (box_of spaces indices) rank) (tuple-within (box_of spaces indices) rank below))
    ∙ place-of-tuple (box_of spaces indices) rank below

-- segment numbers are those at their place
pub numbers-of-rank : NumbersOfRank
numbers-of-rank spaces indices numbers are =
    ap (onto_firsts spaces indices) (tuple-of-place (box_of spaces indices) (from_firsts spaces indices numbers) (from-firsts-within spaces indices numbers are))
    ∙ onto-from spaces indices numbers are

-- the place of segment numbers is one of the box's
pub rank-within : RankWithin
rank-within spaces indices numbers are = place-within (box_of spaces indices) (from_firsts spaces indices numbers) (from-firsts-within spaces indices numbers are)

-- at each place of the box are numbers of the indices' segments
pub numbers-within : NumbersWithin
numbers-within spaces indices rank below = onto-firsts-within spaces indices (tuple_at (box_of spaces indices) rank) (tuple-within (box_of spaces indices) rank below)
