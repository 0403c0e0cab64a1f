-- Lists of indices: what stands under an index, where it stands, and lists with the same members.
use Rattle.std.proofs.Common.{◌≡◌, ℕ, suc, ◌+◌, ◌<◌, inl, inr, true, false, ◌==◌, ◌||◌, nat_eq, List, [], ◌∷◌, map, length, refl, sym, ap, ◌∙◌, subst, arith}
use Rattle.std.specs.Prelude.{if◌then◌else◌, slice_index, sum_by}
use Rattle.std.specs.List.{AllByRecursion, IsDistinct}
use Rattle.std.proofs.lemmas.Bool.{eqb-true, eq-eqb}
use Rattle.std.proofs.lemmas.List.{length-map}
use Rattle.std.proofs.lemmas.List.Elements.{All-from_recursion}
use Rattle.std.proofs.lemmas.List.Sums.{sum_by-cons}
use Rattle.kernel_permute.specs.Permuting.{IsOrder, picked}
use Rattle.sial_syntax.specs.Agreeing.{contains, all_in, has_twice}
use Rattle.sial_syntax.specs.Boxes.{IsTupleOf}
use Rattle.sial_meaning.specs.ReadBackLaws.{under}
use Rattle.sial_meaning.proofs.AcceptedInOtherWords.Pairs.{never, first-holds, second-holds, both-hold}
use Rattle.sial_meaning.proofs.AssignmentsReadBack.Places.{either-holds, or-left, or-right, neither}
use Rattle.exec_sides.specs.Named.{place_among}

-- what a list has differs from what it hasn't
pub differs : (is : List ℕ) (i j : ℕ) → contains is i ≡ false → contains is j ≡ true → (i == j) ≡ false
differs is i j absent there =
    elim (i == j) as (λ b. (i == j) ≡ b → b ≡ false) [
      | true ↦ λ e. absurd (never (sym absent ∙ subst (λ x. contains is x ≡ true) (sym (eqb-true i j e)) there))
      | false ↦ λ e. refl
    ] refl

-- a number is itself
pub same-one : (i : ℕ) → (i == i) ≡ true
same-one i = eq-eqb i i refl

-- what differs, differs the other way round
pub turned : (i j : ℕ) → (i == j) ≡ false → (j == i) ≡ false
turned i j apart =
    elim (j == i) as (λ b. (j == i) ≡ b → b ≡ false) [
      | true ↦ λ e. absurd (never (sym apart ∙ subst (λ x. (i == x) ≡ true) (sym (eqb-true j i e)) (same-one i)))
      | false ↦ λ e. refl
    ] refl

-- the image of an index stands under it
pub under-image : (f : ℕ → ℕ) (is : List ℕ) (i : ℕ) → contains is i ≡ true → under is (map f is) i ≡ f i
under-image f [] i in-is = absurd (never in-is)
under-image f (j ∷ is) i in-is =
    elim (j == i) as (λ b. (j == i) ≡ b → (if b then f j else under is (map f is) i) ≡ f i) [
      | true ↦ λ e. ap f (eqb-true j i e)
      | false ↦ λ e. under-image f is i (subst (λ b. (b || contains is i) ≡ true) e in-is)
    ] refl

-- images that agree at each member
pub same-images : {X : Type 0} (f g : ℕ → X) (is : List ℕ) → ((i : ℕ) → contains is i ≡ true → f i ≡ g i) → map f is ≡ map g is
same-images f g [] same = refl
same-images f g (i ∷ is) same =
    ap (λ x. x ∷ map f is) (same i (or-left (i == i) (contains is i) (same-one i)))
    ∙ ap (λ xs. g i ∷ xs) (same-images f g is (λ j in-is. same j (or-right (i == j) (contains is j) in-is)))

-- the members of a tuple, read under their indices
pub under-all : (is tuple : List ℕ) → has_twice is ≡ false → length tuple ≡ length is → map (under is tuple) is ≡ tuple
under-all [] [] once long = refl
under-all [] (k ∷ ks) once long = absurd (omega (arith, long))
under-all (i ∷ is) [] once long = absurd (omega (arith, long))
under-all (i ∷ is) (k ∷ ks) once long =
    let parts = neither (contains is i) (has_twice is) once in
    let here : (if i == i then k else under is ks i) ≡ k = ap (λ b. if b then k else under is ks i) (same-one i) in
    ap (λ x. x ∷ map (under (i ∷ is) (k ∷ ks)) is) here
    ∙ ap (λ xs. k ∷ xs)
    (same-images (under (i ∷ is) (k ∷ ks)) (under is ks) is (λ j in-is. ap (λ b. if b then k else under is ks j) (differs is i j parts.0 in-is))
    ∙ under-all is ks parts.1 (omega (arith, long)))

-- what stands under an index in a tuple is below its length
pub under-below : (is dims tuple : List ℕ) (i : ℕ) → length dims ≡ length is → IsTupleOf dims tuple → contains is i ≡ true → under is tuple i < under is dims i
under-below [] dims tuple i long are in-is = absurd (never in-is)
under-below (j ∷ is) [] tuple i long are in-is = absurd (omega (arith, long))
under-below (j ∷ is) (d ∷ ds) [] i long are in-is = absurd are
under-below (j ∷ is) (d ∷ ds) (k ∷ ks) i long are in-is =
    elim (j == i) as (λ b. (j == i) ≡ b → (if b then k else under is ks i) < (if b then d else under is ds i)) [
      | true ↦ λ e. are.0
      | false ↦ λ e. under-below is ds ks i (omega (arith, long)) are.1 (subst (λ b. (b || contains is i) ≡ true) e in-is)
    ] refl

-- images below others are a tuple of them
pub tuple-image : (f g : ℕ → ℕ) (is : List ℕ) → ((i : ℕ) → contains is i ≡ true → f i < g i) → IsTupleOf (map g is) (map f is)
tuple-image f g [] below = tt
tuple-image f g (i ∷ is) below = (below i (or-left (i == i) (contains is i) (same-one i)), tuple-image f g is (λ j in-is. below j (or-right (i == j) (contains is j) in-is)))

-- each member of a list that stands in another
pub all-at : (is js : List ℕ) → all_in is js ≡ true → (i : ℕ) → contains is i ≡ true → contains js i ≡ true
all-at [] js all i in-is = absurd (never in-is)
all-at (j ∷ is) js all i in-is =
    elim (j == i) as (λ b. (j == i) ≡ b → contains js i ≡ true) [
      | true ↦ λ e. subst (λ x. contains js x ≡ true) (eqb-true j i e) (first-holds (contains js j) (all_in is js) all)
      | false ↦ λ e. all-at is js (second-holds (contains js j) (all_in is js) all) i (subst (λ b. (b || contains is i) ≡ true) e in-is)
    ] refl

-- a list whose members stand in another
pub all-made : (is js : List ℕ) → ((i : ℕ) → contains is i ≡ true → contains js i ≡ true) → all_in is js ≡ true
all-made [] js each = refl
all-made (i ∷ is) js each = both-hold (contains js i) (all_in is js) (each i (or-left (i == i) (contains is i) (same-one i))) (all-made is js (λ j in-is. each j (or-right (i == j) (contains is j) in-is)))

-- what stands at the place of an index
pub read-among : (f : ℕ → ℕ) (is : List ℕ) (i : ℕ) → contains is i ≡ true → slice_index (map f is) (place_among is i) ≡ f i
read-among f [] i in-is = absurd (never in-is)
read-among f (j ∷ is) i in-is =
    elim (j == i) as (λ b. (j == i) ≡ b → slice_index (f j ∷ map f is) (if b then 0 else suc (place_among is i)) ≡ f i) [
      | true ↦ λ e. ap f (eqb-true j i e)
      | false ↦ λ e. read-among f is i (subst (λ b. (b || contains is i) ≡ true) e in-is)
    ] refl

-- the place of an index is one of the list's
pub place-below : (is : List ℕ) (i : ℕ) → contains is i ≡ true → place_among is i < length is
place-below [] i in-is = absurd (never in-is)
place-below (j ∷ is) i in-is =
    elim (j == i) as (λ b. (j == i) ≡ b → (if b then 0 else suc (place_among is i)) < suc (length is)) [
      | true ↦ λ e. omega arith
      | false ↦ λ e.
          let rest : place_among is i < length is = place-below is i (subst (λ b. (b || contains is i) ≡ true) e in-is) in
          omega (arith, rest)
    ] refl

-- two indices at one place are one
places-apart : (from : List ℕ) (i j : ℕ) → contains from i ≡ true → contains from j ≡ true → (j == i) ≡ false → nat_eq (place_among from i) (place_among from j) ≡ false
places-apart from i j first second apart =
    elim (nat_eq (place_among from i) (place_among from j)) as (λ b. nat_eq (place_among from i) (place_among from j) ≡ b → b ≡ false) [
      | true ↦ λ e.
          let one : i ≡ j = sym (read-among (λ x. x) from i first) ∙ (ap (slice_index (map (λ x. x) from)) (eqb-true (place_among from i) (place_among from j) e) ∙ read-among (λ x. x) from j second) in
          absurd (never (sym apart ∙ subst (λ x. (x == i) ≡ true) one (same-one i)))
      | false ↦ λ e. refl
    ] refl

-- the place of an index that isn't among others is none of theirs
places-differ : (from is : List ℕ) (i : ℕ) → contains from i ≡ true → all_in is from ≡ true → contains is i ≡ false → AllByRecursion (λ p. nat_eq (place_among from i) p ≡ false) (map (place_among from) is)
places-differ from [] i here all absent = tt
places-differ from (j ∷ is) i here all absent =
    let parts = neither (j == i) (contains is i) absent in
    (places-apart from i j here (first-holds (contains from j) (all_in is from) all) parts.0, places-differ from is i here (second-holds (contains from j) (all_in is from) all) parts.1)

-- places of indices that stand once differ
pub places-distinct : (from to : List ℕ) → has_twice to ≡ false → all_in to from ≡ true → IsDistinct nat_eq (map (place_among from) to)
unfolding IsDistinct
places-distinct from [] once all = tt
places-distinct from (i ∷ is) once all =
    let parts = neither (contains is i) (has_twice is) once in
    let here = first-holds (contains from i) (all_in is from) all in
    let rest = second-holds (contains from i) (all_in is from) all in
    (places-differ from is i here rest parts.0, places-distinct from is parts.1 rest)

-- places of indices are below the length of the list
pub places-below : (from to : List ℕ) (n : ℕ) → length from ≡ n → all_in to from ≡ true → AllByRecursion (λ p. p < n) (map (place_among from) to)
places-below from [] n long all = tt
places-below from (i ∷ is) n long all =
    (subst (λ m. place_among from i < m) long (place-below from i (first-holds (contains from i) (all_in is from) all)), places-below from is n long (second-holds (contains from i) (all_in is from) all))

-- what an order picks, by the indices
pub picked-among : (f : ℕ → ℕ) (to from : List ℕ) → all_in to from ≡ true → picked (map (place_among from) to) (map f from) ≡ map f to
picked-among f [] from all = refl
picked-among f (i ∷ is) from all =
    ap (λ x. x ∷ picked (map (place_among from) is) (map f from)) (read-among f from i (first-holds (contains from i) (all_in is from) all))
    ∙ ap (λ xs. f i ∷ xs) (picked-among f is from (second-holds (contains from i) (all_in is from) all))

-- a list without one member
abbrev pub without : ℕ → List ℕ → List ℕ
without i [] = []
without i (j ∷ js) = if j == i then js else j ∷ without i js

-- a sum, one member first
pub sum-without : (f : ℕ → ℕ) (js : List ℕ) (i : ℕ) → contains js i ≡ true → sum_by f js ≡ f i + sum_by f (without i js)
sum-without f [] i in-js = absurd (never in-js)
sum-without f (j ∷ js) i in-js =
    elim (j == i) as (λ b. (j == i) ≡ b → sum_by f (j ∷ js) ≡ f i + sum_by f (if b then js else j ∷ without i js)) [
      | true ↦ λ e. sum_by-cons f j js ∙ ap (λ x. f x + sum_by f js) (eqb-true j i e)
      | false ↦ λ e.
          let rest : sum_by f js ≡ f i + sum_by f (without i js) = sum-without f js i (subst (λ b. (b || contains js i) ≡ true) e in-js) in
          let first = sum_by-cons f j js in
          let second = sum_by-cons f j (without i js) in
          omega (arith, rest, first, second)
    ] refl

-- what is left stood there
pub without-from : (js : List ℕ) (i k : ℕ) → contains (without i js) k ≡ true → contains js k ≡ true
without-from [] i k left = absurd (never left)
without-from (j ∷ js) i k left =
    elim (j == i) as (λ b. (j == i) ≡ b → contains (if b then js else j ∷ without i js) k ≡ true → contains (j ∷ js) k ≡ true) [
      | true ↦ λ e q. or-right (j == k) (contains js k) q
      | false ↦ λ e q.
          elim (either-holds (j == k) (contains (without i js) k) q) as (λ x. contains (j ∷ js) k ≡ true) [
            | inl first ↦ or-left (j == k) (contains js k) first
            | inr rest ↦ or-right (j == k) (contains js k) (without-from js i k rest)
          ]
    ] refl left

-- all others are left
pub without-keeps : (js : List ℕ) (i k : ℕ) → contains js k ≡ true → (i == k) ≡ false → contains (without i js) k ≡ true
without-keeps [] i k in-js apart = absurd (never in-js)
without-keeps (j ∷ js) i k in-js apart =
    elim (j == i) as (λ b. (j == i) ≡ b → contains (if b then js else j ∷ without i js) k ≡ true) [
      | true ↦ λ e. subst (λ b. (b || contains js k) ≡ true) (ap (λ x. x == k) (eqb-true j i e) ∙ apart) in-js
      | false ↦ λ e.
          elim (either-holds (j == k) (contains js k) in-js) as (λ x. contains (j ∷ without i js) k ≡ true) [
            | inl first ↦ or-left (j == k) (contains (without i js) k) first
            | inr rest ↦ or-right (j == k) (contains (without i js) k) (without-keeps js i k rest apart)
          ]
    ] refl

-- a list without a member that stood there once hasn't got it
pub without-lacks : (js : List ℕ) (i : ℕ) → has_twice js ≡ false → contains (without i js) i ≡ false
without-lacks [] i once = refl
without-lacks (j ∷ js) i once =
    let parts = neither (contains js j) (has_twice js) once in
    elim (j == i) as (λ b. (j == i) ≡ b → contains (if b then js else j ∷ without i js) i ≡ false) [
      | true ↦ λ e. subst (λ x. contains js x ≡ false) (eqb-true j i e) parts.0
      | false ↦ λ e. ap (λ b. b || contains (without i js) i) e ∙ without-lacks js i parts.1
    ] refl

-- no member is left twice
pub without-once : (js : List ℕ) (i : ℕ) → has_twice js ≡ false → has_twice (without i js) ≡ false
without-once [] i once = refl
without-once (j ∷ js) i once =
    let parts = neither (contains js j) (has_twice js) once in
    elim (j == i) as (λ b. (j == i) ≡ b → has_twice (if b then js else j ∷ without i js) ≡ false) [
      | true ↦ λ e. parts.1
      | false ↦ λ e. ap (λ b. b || has_twice (without i js)) (none (without i js) j (λ q. never (sym parts.0 ∙ without-from js i j q))) ∙ without-once js i parts.1
    ] refl
  where
    none : (xs : List ℕ) (k : ℕ) → (contains xs k ≡ true → ⊥) → contains xs k ≡ false
    none xs k away = elim (contains xs k) as (λ b. contains xs k ≡ b → b ≡ false) [ true ↦ λ e. absurd (away e) | false ↦ λ e. refl ] refl

-- sums over the same members
pub same-sum : (f : ℕ → ℕ) (is js : List ℕ) → has_twice is ≡ false → has_twice js ≡ false
    → ((k : ℕ) → contains is k ≡ true → contains js k ≡ true) → ((k : ℕ) → contains js k ≡ true → contains is k ≡ true)
    → sum_by f is ≡ sum_by f js
same-sum f [] [] once-is once-js into back = refl
same-sum f [] (j ∷ js) once-is once-js into back = absurd (never (back j (or-left (j == j) (contains js j) (same-one j))))
same-sum f (i ∷ is) js once-is once-js into back =
    let parts = neither (contains is i) (has_twice is) once-is in
    let here : contains js i ≡ true = into i (or-left (i == i) (contains is i) (same-one i)) in
    let rest : sum_by f is ≡ sum_by f (without i js) =
    same-sum f is (without i js) parts.1 (without-once js i once-js)
    (λ k in-is. without-keeps js i k (into k (or-right (i == k) (contains is k) in-is)) (differs is i k parts.0 in-is))
    (λ k left.
    elim (either-holds (i == k) (contains is k) (back k (without-from js i k left))) as (λ x. contains is k ≡ true) [
      | inl same ↦ absurd (never (sym (without-lacks js i once-js) ∙ subst (λ x. contains (without i js) x ≡ true) (sym (eqb-true i k same)) left))
      | inr there ↦ there
    ]) in
    sum_by-cons f i is ∙ (ap (λ n. f i + n) rest ∙ sym (sum-without f js i here))

-- as many numbers as ones
pub ones : (is : List ℕ) → sum_by (λ i. 1) is ≡ length is
ones [] = refl
ones (i ∷ is) = let first = sum_by-cons (λ (i : ℕ). 1) i is in let rest = ones is in omega (arith, first, rest)

-- lists with the same members, each once, are as long
pub same-long : (is js : List ℕ) → has_twice is ≡ false → has_twice js ≡ false → all_in is js ≡ true → all_in js is ≡ true → length is ≡ length js
same-long is js once-is once-js into back = sym (ones is) ∙ (same-sum (λ i. 1) is js once-is once-js (all-at is js into) (all-at js is back) ∙ ones js)

-- the places of the same indices are an order
pub order-is : (to from : List ℕ) → has_twice to ≡ false → has_twice from ≡ false → all_in to from ≡ true → all_in from to ≡ true → IsOrder (map (place_among from) to)
order-is to from once-to once-from into back =
    let long : length from ≡ length (map (place_among from) to) = sym (same-long to from once-to once-from into back) ∙ sym (length-map to (place_among from)) in
    record {
      within = All-from_recursion _ (map (place_among from) to) (places-below from to (length (map (place_among from) to)) long into);
      once = places-distinct from to once-to into;
    }
