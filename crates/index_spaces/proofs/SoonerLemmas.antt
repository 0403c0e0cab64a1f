-- Refusals with lines, in the order in which they are found.
use Rattle.std.proofs.Common.{◌≡◌, ℕ, ◌+◌, ◌<◌, List, [], ◌∷◌, ◌++◌, drop, length, slice_index_or, Bool, true, false, if◌then◌else◌, Option, Some, None, refl, sym, ap, ◌∙◌, arith}
use Rattle.std.proofs.lemmas.Bool.Decides.{nat_tests}
use Rattle.std.proofs.lemmas.List.{drop_more}
use Rattle.index_spaces.specs.Refusing.{AtLine, comes_before, sooner, soonest}

-- what comes before something that comes before a third comes before that
before-both : (a b c : AtLine) → comes_before b a ≡ true → comes_before c b ≡ true → comes_before c a ≡ true
before-both a b c e f = grind (arith, nat_tests)

-- what doesn't come before something that doesn't come before a third doesn't come before that
not-before : (a b c : AtLine) → comes_before b a ≡ false → comes_before c b ≡ false → comes_before c a ≡ false
not-before a b c e f = grind (arith, nat_tests)

-- the one of two that comes first
abbrev earlier : AtLine → AtLine → AtLine
earlier a b = if comes_before b a then b else a

-- of three it doesn't matter which two are compared first
earlier-three : (a b c : AtLine) → earlier (earlier a b) c ≡ earlier a (earlier b c)
earlier-three a b c = by (comes_before b a) (comes_before c b) refl refl
  where
    last : (z : Bool) → comes_before c a ≡ z → comes_before b a ≡ true → comes_before c b ≡ true → c ≡ (if z then c else a)
    last true g e f = refl
    last false g e f = let h = before-both a b c e f in absurd cc

    first : (z : Bool) → comes_before c a ≡ z → comes_before b a ≡ false → comes_before c b ≡ false → (if z then c else a) ≡ a
    first true g e f = let h = not-before a b c e f in absurd cc
    first false g e f = refl

    of-two : (y : Bool) → comes_before c b ≡ y → comes_before b a ≡ true → (if y then c else b) ≡ earlier a (if y then c else b)
    of-two true f e = last (comes_before c a) refl e f
    of-two false f e = sym (ap (λ t. if t then b else a) e)

    of-one : (y : Bool) → comes_before c b ≡ y → comes_before b a ≡ false → earlier a c ≡ earlier a (if y then c else b)
    of-one true f e = refl
    of-one false f e = first (comes_before c a) refl e f ∙ sym (ap (λ t. if t then b else a) e)

    by : (x y : Bool) → comes_before b a ≡ x → comes_before c b ≡ y → earlier (if x then b else a) c ≡ earlier a (earlier b c)
    by true y e f = of-two (comes_before c b) refl e
    by false y e f = of-one (comes_before c b) refl e

-- one beside none
pub sooner-none : (a : Option AtLine) → sooner a None ≡ a
sooner-none None = refl
sooner-none (Some a) = refl

-- of three it doesn't matter which two are compared first
pub sooner_three : (a b c : Option AtLine) → sooner (sooner a b) c ≡ sooner a (sooner b c)
sooner_three None b c = refl
sooner_three (Some a) None c = refl
sooner_three (Some a) (Some b) None = refl
sooner_three (Some a) (Some b) (Some c) = ap Some (earlier-three a b c)

-- the first of two lists
pub soonest-append : {X : Type 0} (f : X → Option AtLine) (xs ys : List X) → soonest f (xs ++ ys) ≡ sooner (soonest f xs) (soonest f ys)
soonest-append f [] ys = refl
soonest-append f (x ∷ xs) ys = ap (sooner (f x)) (soonest-append f xs ys) ∙ sym (sooner_three (f x) (soonest f xs) (soonest f ys))

-- where the one that comes first isn't there, neither is
pub neither-sooner : (a b : Option AtLine) → sooner a b ≡ None → (a ≡ None) × (b ≡ None)
neither-sooner None b e = (refl, e)
neither-sooner (Some a) None e = absurd cc
neither-sooner (Some a) (Some b) e = absurd cc

-- one more of some things that are looked at in order
pub soonest_turn : {X : Type 0} (f : X → Option AtLine) (xs : List X) (i : ℕ) (x : X) (before after here all : Option AtLine) → i < length xs → x ≡ slice_index_or xs i x → here ≡ f x → after ≡ sooner before here
    → sooner before (soonest f (drop i xs)) ≡ all → sooner after (soonest f (drop (i + 1) xs)) ≡ all
soonest_turn f xs i x before after here all within at is step so =
    let rest = soonest f (drop (i + 1) xs) in
    ap (λ a. sooner a rest) (step ∙ ap (sooner before) is)
    ∙ (sooner_three before (f x) rest
    ∙ (ap (λ ys. sooner before (soonest f ys)) (sym (drop_more xs i x within ∙ ap (λ y. y ∷ drop (i + 1) xs) (sym at))) ∙ so))

-- of things none of which is refused each isn't
pub none-at : {X : Type 0} (f : X → Option AtLine) (xs : List X) (i : ℕ) (x : X) → soonest f (drop i xs) ≡ None → i < length xs → x ≡ slice_index_or xs i x → (f x ≡ None) × (soonest f (drop (i + 1) xs) ≡ None)
none-at f xs i x none within at =
    neither-sooner (f x) (soonest f (drop (i + 1) xs))
    (ap (soonest f) (sym (drop_more xs i x within ∙ ap (λ y. y ∷ drop (i + 1) xs) (sym at))) ∙ none)
