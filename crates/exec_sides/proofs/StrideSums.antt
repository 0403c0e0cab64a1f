-- Places as sums over indices, and offsets along axes.
use Rattle.std.proofs.Common.{◌≡◌, ℕ, zero, suc, ◌+◌, ◌*◌, ◌<◌, inl, inr, Bool, true, false, ◌==◌, ◌||◌, not, List, [], ◌∷◌, ◌++◌, map, filter, length, refl, sym, ap, ◌∙◌, subst, arith}
use Rattle.std.specs.Prelude.{if◌then◌else◌, sum_by, flat_map}
use Rattle.std.proofs.lemmas.Bool.{eqb-true}
use Rattle.std.proofs.lemmas.List.Sums.{sum_by-cons, sum_by-append}
use Rattle.std.proofs.lemmas.Grind.{flat_map-append}
use Rattle.kernel_contract.specs.declared.axis.Axis.{Axis}
use Rattle.kernel_contract.specs.Positions.{IsPosition, offset, sum_over}
use Rattle.kernel_contract.specs.Sum.{sum_to}
use Rattle.sial_syntax.specs.Agreeing.{contains, has_twice}
use Rattle.sial_syntax.specs.Boxes.{numbers_from, volume, place_of, tuples, tuple_at, IsTupleOf}
use Rattle.sial_syntax.proofs.AmongLemmas.{among_filter, among_filter_from, among_from, contains_at}
use Rattle.sial_syntax.proofs.BoxLemmas.{numbers-split, tuples-are, tuple-within}
use Rattle.sial_meaning.specs.ReadBackLaws.{under}
use Rattle.sial_meaning.proofs.AcceptedInOtherWords.Pairs.{never}
use Rattle.sial_meaning.proofs.AssignmentsReadBack.Places.{either-holds, or-left, or-right, neither}
use Rattle.exec_sides.specs.Contracting.{stride_under}
use Rattle.exec_sides.proofs.Names.{differs, same-one}

-- what isn't there
pub absent : (xs : List ℕ) (k : ℕ) → (contains xs k ≡ true → ⊥) → contains xs k ≡ false
absent xs k away = elim (contains xs k) as (λ b. contains xs k ≡ b → b ≡ false) [ true ↦ λ e. absurd (away e) | false ↦ λ e. refl ] refl

-- sums that agree at each member
pub sum-same : (f g : ℕ → ℕ) (is : List ℕ) → ((i : ℕ) → contains is i ≡ true → f i ≡ g i) → sum_by f is ≡ sum_by g is
sum-same f g [] same = refl
sum-same f g (i ∷ is) same =
    let here = same i (or-left (i == i) (contains is i) (same-one i)) in
    let rest = sum-same f g is (λ j in-is. same j (or-right (i == j) (contains is j) in-is)) in
    let left = sum_by-cons f i is in
    let right = sum_by-cons g i is in
    omega (arith, here, rest, left, right)

-- the place of named numbers
pub place-sum : (v : ℕ → ℕ) (is dims : List ℕ) → has_twice is ≡ false → length dims ≡ length is → place_of dims (map v is) ≡ sum_by (λ i. v i * stride_under is dims i) is
place-sum v [] [] once long = refl
place-sum v [] (d ∷ ds) once long = absurd (omega (arith, long))
place-sum v (i ∷ is) [] once long = absurd (omega (arith, long))
place-sum v (i ∷ is) (d ∷ ds) once long =
    let parts = neither (contains is i) (has_twice is) once in
    let f : ℕ → ℕ = λ j. v j * stride_under (i ∷ is) (d ∷ ds) j in
    let first : f i ≡ v i * volume ds = ap (λ b. v i * (if b then volume ds else stride_under is ds i)) (same-one i) in
    let others : sum_by f is ≡ sum_by (λ j. v j * stride_under is ds j) is =
    sum-same f (λ j. v j * stride_under is ds j) is (λ j in-is. ap (λ b. v j * (if b then volume ds else stride_under is ds j)) (differs is i j parts.0 in-is)) in
    let rest = place-sum v is ds parts.1 (omega (arith, long)) in
    let whole = sum_by-cons f i is in
    omega (arith, first, others, rest, whole)

-- a sum in two parts
pub sum-split : (p : ℕ → Bool) (f : ℕ → ℕ) (is : List ℕ) → sum_by f is ≡ sum_by f (filter p is) + sum_by f (filter (λ i. not (p i)) is)
sum-split p f [] = refl
sum-split p f (i ∷ is) =
    elim (p i) as (λ b. sum_by f (i ∷ is) ≡ sum_by f (if b then i ∷ filter p is else filter p is) + sum_by f (if not b then i ∷ filter (λ i. not (p i)) is else filter (λ i. not (p i)) is)) [
      | true ↦
          let rest = sum-split p f is in
          let whole = sum_by-cons f i is in
          let first = sum_by-cons f i (filter p is) in
          omega (arith, rest, whole, first)
      | false ↦
          let rest = sum-split p f is in
          let whole = sum_by-cons f i is in
          let first = sum_by-cons f i (filter (λ i. not (p i)) is) in
          omega (arith, rest, whole, first)
    ]

-- the offset of named numbers along axes
pub offset-sum : (stride : Axis → ℕ) (axis : ℕ → Axis) (v : ℕ → ℕ) (is : List ℕ) → offset stride (map axis is) (map v is) ≡ sum_by (λ i. v i * stride (axis i)) is
offset-sum stride axis v [] = refl
offset-sum stride axis v (i ∷ is) =
    let rest = offset-sum stride axis v is in
    let whole = sum_by-cons (λ i. v i * stride (axis i)) i is in
    omega (arith, rest, whole)

-- members of a part of a list
pub kept : (p : ℕ → Bool) (is : List ℕ) (i : ℕ) → contains is i ≡ true → p i ≡ true → contains (filter p is) i ≡ true
kept p is i in-is holds = contains_at i (filter p is) (among_filter p i is (among_from i is in-is) holds)

pub kept-from : (p : ℕ → Bool) (is : List ℕ) (i : ℕ) → contains (filter p is) i ≡ true → (contains is i ≡ true) × (p i ≡ true)
kept-from p is i in-part = let both = among_filter_from p i is (among_from i (filter p is) in-part) in (contains_at i is both.0, both.1)

-- a part of a list without repeats has none
pub kept-once : (p : ℕ → Bool) (is : List ℕ) → has_twice is ≡ false → has_twice (filter p is) ≡ false
kept-once p [] once = refl
kept-once p (i ∷ is) once =
    let parts = neither (contains is i) (has_twice is) once in
    let rest = kept-once p is parts.1 in
    let none : contains (filter p is) i ≡ false = absent (filter p is) i (λ q. never (sym parts.0 ∙ (kept-from p is i q).0)) in
    elim (p i) as (λ b. has_twice (if b then i ∷ filter p is else filter p is) ≡ false) [
      | true ↦ ap (λ b. b || has_twice (filter p is)) none ∙ rest
      | false ↦ rest
    ]

-- members of two lists, one behind the other
pub either-list : (xs ys : List ℕ) (i : ℕ) → contains (xs ++ ys) i ≡ (contains xs i || contains ys i)
either-list [] ys i = refl
either-list (x ∷ xs) ys i = ap (λ b. (x == i) || b) (either-list xs ys i) ∙ swap (x == i) (contains xs i) (contains ys i)
  where
    swap : (a b c : Bool) → (a || (b || c)) ≡ ((a || b) || c)
    swap true b c = refl
    swap false b c = refl

-- two lists without repeats that share nothing
pub joined-once : (xs ys : List ℕ) → has_twice xs ≡ false → has_twice ys ≡ false → ((i : ℕ) → contains xs i ≡ true → contains ys i ≡ false) → has_twice (xs ++ ys) ≡ false
joined-once [] ys once others apart = others
joined-once (x ∷ xs) ys once others apart =
    let parts = neither (contains xs x) (has_twice xs) once in
    let here : contains (xs ++ ys) x ≡ false = either-list xs ys x ∙ (ap (λ b. b || contains ys x) parts.0 ∙ apart x (or-left (x == x) (contains xs x) (same-one x))) in
    ap (λ b. b || has_twice (xs ++ ys)) here ∙ joined-once xs ys parts.1 others (λ i in-xs. apart i (or-right (x == i) (contains xs i) in-xs))

-- what stands under an index of the first of two lists, and under one of the second
pub under-first : (xs ys ps qs : List ℕ) (i : ℕ) → length ps ≡ length xs → contains xs i ≡ true → under (xs ++ ys) (ps ++ qs) i ≡ under xs ps i
under-first [] ys ps qs i long in-xs = absurd (never in-xs)
under-first (x ∷ xs) ys [] qs i long in-xs = absurd (omega (arith, long))
under-first (x ∷ xs) ys (p ∷ ps) qs i long in-xs =
    elim (x == i) as (λ b. (x == i) ≡ b → (if b then p else under (xs ++ ys) (ps ++ qs) i) ≡ (if b then p else under xs ps i)) [
      | true ↦ λ e. refl
      | false ↦ λ e. under-first xs ys ps qs i (omega (arith, long)) (subst (λ b. (b || contains xs i) ≡ true) e in-xs)
    ] refl

pub under-second : (xs ys ps qs : List ℕ) (i : ℕ) → length ps ≡ length xs → contains xs i ≡ false → under (xs ++ ys) (ps ++ qs) i ≡ under ys qs i
under-second [] ys [] qs i long absent = refl
under-second [] ys (p ∷ ps) qs i long absent = absurd (omega (arith, long))
under-second (x ∷ xs) ys [] qs i long absent = absurd (omega (arith, long))
under-second (x ∷ xs) ys (p ∷ ps) qs i long absent =
    let parts = neither (x == i) (contains xs i) absent in
    ap (λ b. if b then p else under (xs ++ ys) (ps ++ qs) i) parts.0 ∙ under-second xs ys ps qs i (omega (arith, long)) parts.1

-- a position along named axes is a tuple of their lengths
pub axis-tuple : (axis : ℕ → Axis) (is position : List ℕ) → IsPosition (map axis is) position → IsTupleOf (map (λ i. (axis i).len) is) position
axis-tuple axis [] [] are = tt
axis-tuple axis [] (n ∷ ns) are = absurd are
axis-tuple axis (i ∷ is) [] are = absurd are
axis-tuple axis (i ∷ is) (n ∷ ns) are = (are.0, axis-tuple axis is ns are.1)

pub axis-position : (axis : ℕ → Axis) (v : ℕ → ℕ) (is : List ℕ) → ((i : ℕ) → contains is i ≡ true → v i < (axis i).len) → IsPosition (map axis is) (map v is)
axis-position axis v [] below = tt
axis-position axis v (i ∷ is) below = (below i (or-left (i == i) (contains is i) (same-one i)), axis-position axis v is (λ j in-is. below j (or-right (i == j) (contains is j) in-is)))

-- a position along axes has a number for each
pub axis-long : (axes : List Axis) (position : List ℕ) → IsPosition axes position → length position ≡ length axes
axis-long [] [] are = refl
axis-long [] (n ∷ ns) are = absurd are
axis-long (x ∷ xs) [] are = absurd are
axis-long (x ∷ xs) (n ∷ ns) are = let rest : length ns ≡ length xs = axis-long xs ns are.1 in omega (arith, rest)

-- a sum over rows
row-sum : (row : List (List ℕ)) (term : List ℕ → ℕ) (g : ℕ → ℕ) → ((k : ℕ) → g k ≡ sum_by term (map (λ t. k ∷ t) row)) → (n : ℕ) → sum_to n g ≡ sum_by term (flat_map (λ k. map (λ t. k ∷ t) row) (numbers_from 0 n))
row-sum row term g same zero = refl
row-sum row term g same (suc n) =
    let f : ℕ → List (List ℕ) = λ k. map (λ t. k ∷ t) row in
    let one : n + 1 ≡ suc n = omega arith in
    let none : 0 + n ≡ n = omega arith in
    let split : numbers_from 0 (suc n) ≡ numbers_from 0 n ++ (n ∷ []) = ap (numbers_from 0) (sym one) ∙ (numbers-split 0 n 1 ∙ ap (λ k. numbers_from 0 n ++ (k ∷ [])) none) in
    let rows : sum_by term (flat_map f (numbers_from 0 (suc n))) ≡ sum_by term (flat_map f (numbers_from 0 n)) + sum_by term (flat_map f (n ∷ [])) =
    ap (λ ks. sum_by term (flat_map f ks)) split ∙ (ap (sum_by term) (flat_map-append f (numbers_from 0 n) (n ∷ [])) ∙ sum_by-append term (flat_map f (numbers_from 0 n)) (flat_map f (n ∷ []))) in
    let last : sum_by term (flat_map f (n ∷ [])) ≡ g n = ap (sum_by term) (alone (f n)) ∙ sym (same n) in
    let before = row-sum row term g same n in
    omega (arith, rows, last, before)
  where
    alone : (xs : List (List ℕ)) → xs ++ [] ≡ xs
    alone [] = refl
    alone (x ∷ xs) = ap (λ ys. x ∷ ys) (alone xs)

-- a sum over images
sum-image : (f : List ℕ → List ℕ) (term : List ℕ → ℕ) (xs : List (List ℕ)) → sum_by (λ t. term (f t)) xs ≡ sum_by term (map f xs)
sum-image f term [] = refl
sum-image f term (x ∷ xs) =
    let rest = sum-image f term xs in
    let left = sum_by-cons (λ t. term (f t)) x xs in
    let right = sum_by-cons term (f x) (map f xs) in
    omega (arith, rest, left, right)

-- a sum along axes is one over the tuples of their lengths
pub sum-tuples : (axis : ℕ → Axis) (is : List ℕ) (term : List ℕ → ℕ) → sum_over (map axis is) term ≡ sum_by term (tuples (map (λ i. (axis i).len) is))
sum-tuples axis [] term = let one = sum_by-cons term [] [] in omega (arith, one)
sum-tuples axis (i ∷ is) term =
    row-sum (tuples (map (λ i. (axis i).len) is)) term (λ n. sum_over (map axis is) (λ position. term (n ∷ position)))
    (λ k. sum-tuples axis is (λ position. term (k ∷ position)) ∙ sum-image (λ t. k ∷ t) term (tuples (map (λ i. (axis i).len) is)))
    (axis i).len

-- sums that agree at each tuple of a box
pub sum-alike : (f h : List ℕ → ℕ) (dims : List ℕ) → ((t : List ℕ) → IsTupleOf dims t → f t ≡ h t) → sum_by f (tuples dims) ≡ sum_by h (tuples dims)
sum-alike f h dims alike =
    ap (sum_by f) (tuples-are dims) ∙ (by_numbers (volume dims) 0 (λ k low. omega (arith, low)) ∙ sym (ap (sum_by h) (tuples-are dims)))
  where
    by_numbers : (n first : ℕ) → ((k : ℕ) → k < first + n → k < volume dims) → sum_by f (map (tuple_at dims) (numbers_from first n)) ≡ sum_by h (map (tuple_at dims) (numbers_from first n))
    by_numbers zero first below = refl
    by_numbers (suc n) first below =
        let one : f (tuple_at dims first) ≡ h (tuple_at dims first) = alike (tuple_at dims first) (tuple-within dims first (below first (omega arith))) in
        let rest = by_numbers n (first + 1) (λ k low. below k (omega (arith, low))) in
        let left = sum_by-cons f (tuple_at dims first) (map (tuple_at dims) (numbers_from (first + 1) n)) in
        let right = sum_by-cons h (tuple_at dims first) (map (tuple_at dims) (numbers_from (first + 1) n)) in
        omega (arith, one, rest, left, right)

-- images that are the same list agree at each member
pub images-agree : (f g : ℕ → ℕ) (is : List ℕ) → map f is ≡ map g is → (i : ℕ) → contains is i ≡ true → f i ≡ g i
images-agree f g [] same i in-is = absurd (never in-is)
images-agree f g (j ∷ is) same i in-is =
    elim (either-holds (j == i) (contains is i) in-is) as (λ x. f i ≡ g i) [
      | inl here ↦ subst (λ k. f k ≡ g k) (eqb-true j i here) (first-same (f j) (g j) (map f is) (map g is) same)
      | inr rest ↦ images-agree f g is (rest-same (f j) (g j) (map f is) (map g is) same) i rest
    ]
  where
    first-same : (x y : ℕ) (xs ys : List ℕ) → ◌≡◌ {A = List ℕ} (x ∷ xs) (y ∷ ys) → x ≡ y
    first-same x y xs ys e = cc

    rest-same : (x y : ℕ) (xs ys : List ℕ) → ◌≡◌ {A = List ℕ} (x ∷ xs) (y ∷ ys) → xs ≡ ys
    rest-same x y xs ys e = cc
