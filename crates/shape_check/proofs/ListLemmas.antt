-- What tests on lists of indices say of lists together.
use Rattle.std.proofs.Common.{◌≡◌, ℕ, List, [], ◌∷◌, ◌++◌, filter, Bool, true, false, cond, ◌&&◌, ◌||◌, ◌==◌, not, refl, ap, ◌∙◌}
use Rattle.std.specs.Cmp.Lexicographic.{pointwise}
use Rattle.std.specs.List.{list_all}
use Rattle.std.proofs.Math.Bool.{and-false}
use Rattle.std.proofs.lemmas.Bool.{eqb-true}
use Rattle.std.proofs.lemmas.List.Folds.{list_any-append, list_all-append}
use Rattle.sial_syntax.specs.Agreeing.{contains, all_in, same_list, in_one}

-- lists are the same where their members are, pair by pair
pub same_by_pairs : (xs ys : List ℕ) → pointwise ◌==◌ xs ys ≡ same_list xs ys
same_by_pairs [] [] = refl
same_by_pairs [] (y ∷ ys) = refl
same_by_pairs (x ∷ xs) [] = refl
same_by_pairs (x ∷ xs) (y ∷ ys) = ap (λ b. (x == y) && b) (same_by_pairs xs ys)

-- an index of two lists together stands in one of them
pub contains_append : (xs ys : List ℕ) (index : ℕ) → contains (xs ++ ys) index ≡ (contains xs index || contains ys index)
contains_append xs ys index = list_any-append (λ i. i == index) xs ys

-- two lists together stand in another where both do
pub all_in_append : (xs ys other : List ℕ) → all_in (xs ++ ys) other ≡ (all_in xs other && all_in ys other)
all_in_append xs ys other = list_all-append (contains other) xs ys

-- an index stands among those of a list that another lacks
pub contains_others : (xs without : List ℕ) (index : ℕ) → contains (filter (λ i. not (contains without i)) xs) index ≡ (contains xs index && not (contains without index))
contains_others [] without index = refl
contains_others (x ∷ xs) without index =
    step
    (contains without x)
    (x == index)
    (contains without index)
    (contains xs index)
    (filter (λ i. not (contains without i)) xs)
    (λ e. ap (contains without) (eqb-true x index e))
    (contains_others xs without index)
    refl
  where
    step : (w t wi c : Bool) (fs : List ℕ) → (t ≡ true → w ≡ wi) → contains fs index ≡ (c && not wi) → (x == index) ≡ t → contains (cond (not w) (x ∷ fs) fs) index ≡ ((t || c) && not wi)
    step true true true c fs same others is = others ∙ and-false c
    step true true false c fs same others is = let e : true ≡ false = same refl in absurd cc
    step true false wi c fs same others is = others
    step false true true c fs same others is = let e : false ≡ true = same refl in absurd cc
    step false true false c fs same others is = ap (λ b. b || contains fs index) is
    step false false wi c fs same others is = ap (λ b. b || contains fs index) is ∙ others

-- an index stands in exactly one of two lists
pub contains_in_one : (xs ys : List ℕ) (index : ℕ) → contains (in_one xs ys) index ≡ cond (contains xs index) (not (contains ys index)) (contains ys index)
contains_in_one xs ys index =
    contains_append (filter (λ x. not (contains ys x)) xs) (filter (λ y. not (contains xs y)) ys) index
    ∙ ap (λ b. b || contains (filter (λ y. not (contains xs y)) ys) index) (contains_others xs ys index)
    ∙ ap (λ b. (contains xs index && not (contains ys index)) || b) (contains_others ys xs index)
    ∙ by (contains xs index) (contains ys index)
  where
    by : (x y : Bool) → ((x && not y) || (y && not x)) ≡ cond x (not y) y
    by true true = refl
    by true false = refl
    by false true = refl
    by false false = refl

-- those of a list that another lacks stand in a third where each stands in one of both
pub others_in : (xs without target : List ℕ) → all_in (filter (λ i. not (contains without i)) xs) target ≡ list_all (λ i. contains without i || contains target i) xs
others_in [] without target = refl
others_in (x ∷ xs) without target = step (contains without x) (filter (λ i. not (contains without i)) xs) (others_in xs without target)
  where
    step : (w : Bool) (fs : List ℕ) → all_in fs target ≡ list_all (λ i. contains without i || contains target i) xs → all_in (cond (not w) (x ∷ fs) fs) target ≡ ((w || contains target x) && list_all (λ i. contains without i || contains target i) xs)
    step true fs others = others
    step false fs others = ap (λ b. contains target x && b) others
