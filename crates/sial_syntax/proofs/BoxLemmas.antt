-- Rows of numbers, the tuples of a box, and their places.
use Rattle.std.proofs.Common.{◌≡◌, ℕ, zero, suc, ◌+◌, ◌*◌, ◌/◌, ◌%◌, ◌<◌, ◌≤◌, List, [], ◌∷◌, ◌++◌, map, length, slice_index_or, refl, sym, ap, ◌∙◌, subst, arith, add-zero}
use Rattle.std.proofs.Math.Nat.{div-add-mod, div-lt_iff_lt-mul, mod-lt, mul-le-mul_right}
use Rattle.std.proofs.lemmas.Simd.{map-map}
use Rattle.std.proofs.lemmas.List.{map-append, length-map}
use Rattle.std.proofs.lemmas.Nat.{div-mul-add, mod-mul-add}
use Rattle.std.specs.Prelude.{flat_map}
use Rattle.sial_syntax.specs.Boxes.{numbers_from, volume, tuples, place_of, tuple_at}
use Rattle.sial_syntax.specs.BoxLaws.{PlaceOfTuple, TupleOfPlace, PlaceWithin, TupleWithin, TuplesCounted}

-- one f for each number of a row that agrees with another
pub map-from : {X : Type 0} (f g : ℕ → X) (first n : ℕ) → ((k : ℕ) → first ≤ k → k < (first + n) → f k ≡ g k) → map f (numbers_from first n) ≡ map g (numbers_from first n)
map-from f g first zero same = refl
map-from f g first (suc n) same =
    ap (λ x. x ∷ map f (numbers_from (first + 1) n)) (same first (omega arith) (omega arith))
    ∙ ap (λ rest. g first ∷ rest) (map-from f g (first + 1) n (λ k from below. same k (omega (arith, from)) (omega (arith, below))))

-- a row of numbers, each a step on
pub numbers-step : (first n : ℕ) → map (λ (k : ℕ). k + 1) (numbers_from first n) ≡ numbers_from (first + 1) n
numbers-step first zero = refl
numbers-step first (suc n) = ap (λ rest. (first + 1) ∷ rest) (numbers-step (first + 1) n)

-- a row of numbers begins at another
pub numbers-shift : (first n : ℕ) → map (λ (k : ℕ). first + k) (numbers_from 0 n) ≡ numbers_from first n
numbers-shift first zero = refl
numbers-shift first (suc n) =
    ap (λ k. k ∷ map (λ (k : ℕ). first + k) (numbers_from (0 + 1) n)) (add-zero first)
    ∙ ap
    (λ rest. first ∷ rest)
    (ap (map (λ (k : ℕ). first + k)) (sym (numbers-step 0 n))
    ∙ (map-map (λ (k : ℕ). first + k) (λ (k : ℕ). k + 1) (numbers_from 0 n)
    ∙ (map-from (λ (k : ℕ). first + (k + 1)) (λ (k : ℕ). (first + 1) + k) 0 n (λ k from below. omega arith)
    ∙ numbers-shift (first + 1) n)))

-- a row of numbers in two parts
pub numbers-split : (first m n : ℕ) → numbers_from first (m + n) ≡ numbers_from first m ++ numbers_from (first + m) n
numbers-split first zero n =
    let a : (0 + n) ≡ n = omega arith in
    let b : first + 0 ≡ first = omega arith in
    rw (a, b) refl
numbers-split first (suc m) n =
    let a : (suc m + n) ≡ suc (m + n) = omega arith in
    let b : first + suc m ≡ (first + 1) + m = omega arith in
    rw (a, b) (ap (λ rest. first ∷ rest) (numbers-split (first + 1) m n))

-- how long a row is
pub numbers-length : (first n : ℕ) → length (numbers_from first n) ≡ n
numbers-length first zero = refl
numbers-length first (suc n) = ap suc (numbers-length (first + 1) n)

-- a number of a row
pub numbers-read : (first n k d : ℕ) → k < n → slice_index_or (numbers_from first n) k d ≡ first + k
numbers-read first zero k d below = absurd (omega (arith, below))
numbers-read first (suc n) zero d below = omega arith
numbers-read first (suc n) (suc k) d below = numbers-read (first + 1) n k d (omega (arith, below)) ∙ omega arith

-- rows of one length after one another are one row
pub rows-are : {X : Type 0} (g : ℕ → ℕ → X) (h : ℕ → X) (v : ℕ) → ((k r : ℕ) → r < v → h (k * v + r) ≡ g k r) → (first n : ℕ) →
    flat_map (λ k. map (g k) (numbers_from 0 v)) (numbers_from first n) ≡ map h (numbers_from (first * v) (n * v))
rows-are g h v same first zero =
    let a : (0 * v) ≡ 0 = omega arith in
    rw a refl
rows-are g h v same first (suc n) =
    let a : (suc n * v) ≡ v + n * v = omega arith in
    let b : ((first + 1) * v) ≡ first * v + v = omega arith in
    let row : map (g first) (numbers_from 0 v) ≡ map h (numbers_from (first * v) v) =
    map-from (g first) (λ r. h (first * v + r)) 0 v (λ r from below. sym (same first r (omega (arith, below))))
    ∙ (sym (map-map h (λ r. first * v + r) (numbers_from 0 v)) ∙ ap (map h) (numbers-shift (first * v) v)) in
    let others : flat_map (λ k. map (g k) (numbers_from 0 v)) (numbers_from (first + 1) n) ≡ map h (numbers_from (first * v + v) (n * v)) =
    rows-are g h v same (first + 1) n ∙ ap (λ x. map h (numbers_from x (n * v))) b in
    ap (λ x. x ++ flat_map (λ k. map (g k) (numbers_from 0 v)) (numbers_from (first + 1) n)) row
    ∙ (ap (λ x. map h (numbers_from (first * v) v) ++ x) others
    ∙ (sym (map-append h (numbers_from (first * v) v) (numbers_from (first * v + v) (n * v)))
    ∙ ap (map h) (sym (numbers-split (first * v) v (n * v)) ∙ ap (numbers_from (first * v)) (sym a))))

-- one f for each element that agrees with another
flat-same : {X Y : Type 0} (f g : X → List Y) (xs : List X) → ((x : X) → f x ≡ g x) → flat_map f xs ≡ flat_map g xs
flat-same f g [] same = refl
flat-same f g (x ∷ xs) same = ap (λ y. y ++ flat_map f xs) (same x) ∙ ap (λ y. g x ++ y) (flat-same f g xs same)

-- the tuples of a box are those at its places
pub tuples-are : (dims : List ℕ) → tuples dims ≡ map (tuple_at dims) (numbers_from 0 (volume dims))
tuples-are [] = refl
tuples-are (n ∷ ns) =
    flat-same
    (λ k. map (λ t. k ∷ t) (tuples ns))
    (λ k. map (λ r. k ∷ tuple_at ns r) (numbers_from 0 (volume ns)))
    (numbers_from 0 n)
    (λ k. ap (map (λ t. k ∷ t)) (tuples-are ns) ∙ map-map (λ t. k ∷ t) (tuple_at ns) (numbers_from 0 (volume ns)))
    ∙ (rows-are
    (λ k r. k ∷ tuple_at ns r)
    (tuple_at (n ∷ ns))
    (volume ns)
    (λ k r below. ap (λ q. q ∷ tuple_at ns ((k * volume ns + r) % volume ns)) (div-mul-add k (volume ns) r below) ∙ ap (λ q. k ∷ tuple_at ns q) (mod-mul-add k (volume ns) r below))
    0
    n
    ∙ ap (λ first. map (tuple_at (n ∷ ns)) (numbers_from first (n * volume ns))) (omega arith))

-- how many tuples a box has
pub tuples-counted : TuplesCounted
tuples-counted dims =
    ap length (tuples-are dims) ∙ (length-map (numbers_from 0 (volume dims)) (tuple_at dims) ∙ numbers-length 0 (volume dims))

-- a number of rows before the end, and then a place in a row
within-rows : (k n v p : ℕ) → k < n → p < v → (k * v + p) < n * v
within-rows k n v p below inside =
    let rows : (k + 1) * v ≤ n * v = mul-le-mul_right v (omega (arith, below)) in
    let next : (k + 1) * v ≡ k * v + v = omega arith in
    let least : (k * v + v) ≤ n * v = subst (λ x. x ≤ n * v) next rows in
    omega (arith, least, inside)

-- a box with a place has no length 0
row-positive : (n v p : ℕ) → p < n * v → 0 < v
row-positive n zero p below =
    let none : n * 0 ≡ 0 = omega arith in
    absurd (omega (arith, none, below))
row-positive n (suc v) p below = omega arith

-- the place of a tuple is one of the box's
pub place-within : PlaceWithin
place-within [] [] is = omega arith
place-within [] (k ∷ ks) is = absurd is
place-within (n ∷ ns) [] is = absurd is
place-within (n ∷ ns) (k ∷ ks) is = within-rows k n (volume ns) (place_of ns ks) is.0 (place-within ns ks is.1)

-- a tuple is that at its place
pub tuple-of-place : TupleOfPlace
tuple-of-place [] [] is = refl
tuple-of-place [] (k ∷ ks) is = absurd is
tuple-of-place (n ∷ ns) [] is = absurd is
tuple-of-place (n ∷ ns) (k ∷ ks) is =
    ap (λ q. q ∷ tuple_at ns ((k * volume ns + place_of ns ks) % volume ns)) (div-mul-add k (volume ns) (place_of ns ks) (place-within ns ks is.1))
    ∙ (ap (λ q. k ∷ tuple_at ns q) (mod-mul-add k (volume ns) (place_of ns ks) (place-within ns ks is.1))
    ∙ ap (λ t. k ∷ t) (tuple-of-place ns ks is.1))

-- at each place of a box is one of its tuples
pub tuple-within : TupleWithin
tuple-within [] place below = tt
tuple-within (n ∷ ns) place below =
    let some = row-positive n (volume ns) place below in
    ((div-lt_iff_lt-mul some).1 below, tuple-within ns (place % volume ns) (mod-lt place some))

-- a place is that of its tuple
pub place-of-tuple : PlaceOfTuple
place-of-tuple [] place below = omega (arith, below)
place-of-tuple (n ∷ ns) place below =
    let some = row-positive n (volume ns) place below in
    let whole : volume ns * (place / volume ns) + place % volume ns ≡ place = div-add-mod place (volume ns) in
    let turned : place / volume ns * volume ns ≡ volume ns * (place / volume ns) = omega arith in
    ap (λ q. place / volume ns * volume ns + q) (place-of-tuple ns (place % volume ns) (mod-lt place some)) ∙ (ap (λ q. q + place % volume ns) turned ∙ whole)
