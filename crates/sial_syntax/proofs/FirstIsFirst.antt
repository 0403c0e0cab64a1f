-- The first fault is one of the faults, before which none comes.
use Rattle.std.proofs.Common.{◌≡◌, List, [], ◌∷◌, Bool, true, false, if◌then◌else◌, Option, Some, None, inl, inr, refl, sym, ap, ◌∙◌, subst, arith}
use Rattle.std.proofs.lemmas.Bool.Decides.{nat_tests}
use Rattle.sial_syntax.specs.FirstLaws.{FirstIsFirst, NoneWithoutFaults}
use Rattle.sial_syntax.specs.Shapes.{Fault, comes_before, earlier, first_fault}
use Rattle.sial_syntax.proofs.AmongLemmas.{Among}
use Rattle.sial_syntax.proofs.GrantedLemmas.{fault_none}
use Rattle.sial_syntax.proofs.ReachedByChains.{member, contained}

-- none comes before itself
before-itself : (a : Fault) → comes_before a a ≡ false
before-itself a = grind (arith, nat_tests)

-- of two only one comes before the other
one-way : (a b : Fault) → comes_before b a ≡ true → comes_before a b ≡ false
one-way a b e = grind (arith, nat_tests)

-- what doesn't come before something that doesn't come before a third doesn't come before that
not-before : (a b c : Fault) → comes_before a b ≡ false → comes_before b c ≡ false → comes_before a c ≡ false
not-before a b c e f = grind (arith, nat_tests)

-- the first of faults
abbrev IsFirst : List Fault → Fault → Type 0
IsFirst faults first = Among first faults × ((other : Fault) → Among other faults → comes_before other first ≡ false)

-- the earlier of a fault and the first of others
earlier-first : (a : Fault) (more : List Fault) (found : Option Fault) → ((b : Fault) → found ≡ Some b → IsFirst more b) → (found ≡ None → more ≡ []) → IsFirst (a ∷ more) (earlier a found)
earlier-first a more None some none =
    subst (λ (xs : List Fault). IsFirst (a ∷ xs) a) (sym (none refl)) (inl refl, λ other m. alone other m)
  where
    alone : (other : Fault) → Among other (a ∷ []) → comes_before other a ≡ false
    alone other (inl same) = ap (λ x. comes_before x a) same ∙ before-itself a
    alone other (inr never) = absurd never
earlier-first a more (Some b) some none = by-test (comes_before b a) refl (some b refl)
  where
    by-test : (t : Bool) → comes_before b a ≡ t → IsFirst more b → IsFirst (a ∷ more) (if t then b else a)
    by-test true e rest = (inr rest.0, λ other m. others other m)
      where
        others : (other : Fault) → Among other (a ∷ more) → comes_before other b ≡ false
        others other (inl same) = ap (λ x. comes_before x b) same ∙ one-way a b e
        others other (inr m) = rest.1 other m
    by-test false e rest = (inl refl, λ other m. others other m)
      where
        others : (other : Fault) → Among other (a ∷ more) → comes_before other a ≡ false
        others other (inl same) = ap (λ x. comes_before x a) same ∙ before-itself a
        others other (inr m) = not-before other b a (rest.1 other m) e

first-of : (faults : List Fault) (first : Fault) → first_fault faults ≡ Some first → IsFirst faults first
first-of [] first e = absurd cc
first-of (f ∷ fs) first e = subst (IsFirst (f ∷ fs)) (same e) (earlier-first f fs (first_fault fs) (λ b g. first-of fs b g) (fault_none fs))
  where
    same : {x y : Fault} → Some x ≡ Some y → x ≡ y
    same p = cc

pub first-is-first : FirstIsFirst
first-is-first faults first e =
    let is = first-of faults first e in
    (contained first faults is.0, λ other has. is.1 other (member other faults has))

pub none-without-faults : NoneWithoutFaults
none-without-faults faults = (fault_none faults, λ none. ap first_fault none)
