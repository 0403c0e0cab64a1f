-- Numbers of words that are kept at the end of their type.
use Rattle.std.proofs.Common.{◌≡◌, ℕ, zero, suc, ◌+◌, ◌-◌, ◌*◌, ◌^◌, ◌<◌, ◌≤◌, min, max, List, [], ◌∷◌, Bool, true, false, drop, filter, fold, get_or, length, map, refl, sym, ap, ◌∙◌, arith}
use Rattle.std.specs.Prelude.{if◌then◌else◌, sum_by}
use Rattle.std.proofs.Math.Seq.{drop-cons}
use Rattle.std.proofs.lemmas.List.Sums.{sum_by-cons}
use Rattle.index_spaces.proofs.BoundLemmas.{min_product}

-- where all numbers are kept
abbrev pub kept : ℕ → ℕ
kept n = min n (2 ^ 64 - 1)

-- a product of numbers that were kept before
product_kept : (a b : ℕ) → kept (kept a * kept b) ≡ kept (a * b)
product_kept a b =
    let turned : kept a * b ≡ b * kept a = omega arith in
    let back : b * a ≡ a * b = omega arith in
    min_product (kept a) b (2 ^ 64 - 1) ∙ (ap kept turned ∙ (min_product b a (2 ^ 64 - 1) ∙ ap kept back))

-- Elements, and blocks of a width, each kept.
pub words_kept : (elements width blocks : ℕ) → kept (kept elements + kept (kept width * kept blocks)) ≡ kept (elements + width * blocks)
words_kept elements width blocks =
    let same : kept (kept elements + kept (width * blocks)) ≡ kept (elements + width * blocks) = omega arith in
    ap (λ n. kept (kept elements + n)) (product_kept width blocks) ∙ same

-- the first of some elements of which something holds
sum_first : {X : Type 0} (f : X → ℕ) (test : X → Bool) (x : X) (xs : List X) → sum_by f (filter test (x ∷ xs)) ≡ (if test x then f x else 0) + sum_by f (filter test xs)
sum_first f test x xs = by (test x)
  where
    by : (b : Bool) → sum_by f (if b then x ∷ filter test xs else filter test xs) ≡ (if b then f x else 0) + sum_by f (filter test xs)
    by true = sum_by-cons f x (filter test xs)
    by false = let none : 0 + sum_by f (filter test xs) ≡ sum_by f (filter test xs) = omega arith in sym none

-- One array more.
pub one_shared : {X : Type 0} (f : X → ℕ) (test : X → Bool) (sum : ℕ) (x : X) (xs : List X)
    → kept (kept (sum + kept (if test x then f x else 0)) + sum_by f (filter test xs)) ≡ kept (sum + sum_by f (filter test (x ∷ xs)))
one_shared f test sum x xs =
    let same : kept (kept (sum + kept (if test x then f x else 0)) + sum_by f (filter test xs)) ≡ kept (sum + ((if test x then f x else 0) + sum_by f (filter test xs))) = omega arith in
    same ∙ ap (λ n. kept (sum + n)) (sym (sum_first f test x xs))

-- the first of some elements, counted if something holds of it
length_first : {X : Type 0} (test : X → Bool) (x : X) (xs : List X) → length (filter test (x ∷ xs)) ≡ (if test x then 1 else 0) + length (filter test xs)
length_first test x xs = by (test x)
  where
    by : (b : Bool) → length (if b then x ∷ filter test xs else filter test xs) ≡ (if b then 1 else 0) + length (filter test xs)
    by true = omega arith
    by false = omega arith

pub one_own : {X : Type 0} (f : X → ℕ) (test other : X → Bool) (blocks : ℕ) (x : X) (xs : List X)
    → kept (kept (blocks + kept ((if test x then f x else 0) + (if other x then 1 else 0))) + (sum_by f (filter test xs) + length (filter other xs)))
    ≡ kept (blocks + (sum_by f (filter test (x ∷ xs)) + length (filter other (x ∷ xs))))
one_own f test other blocks x xs =
    let same : kept (kept (blocks + kept ((if test x then f x else 0) + (if other x then 1 else 0))) + (sum_by f (filter test xs) + length (filter other xs)))
    ≡ kept (blocks + (((if test x then f x else 0) + sum_by f (filter test xs)) + ((if other x then 1 else 0) + length (filter other xs)))) = omega arith in
    same ∙ (ap (λ n. kept (blocks + (n + ((if other x then 1 else 0) + length (filter other xs))))) (sym (sum_first f test x xs))
    ∙ ap (λ n. kept (blocks + (sum_by f (filter test (x ∷ xs)) + n))) (sym (length_first other x xs)))

-- The greatest of some numbers and another.
pub fold_max : (a : ℕ) (ys : List ℕ) → fold max a ys ≡ max a (fold max 0 ys)
fold_max a [] = omega arith
fold_max a (y ∷ ys) =
    let both : max (max a y) (fold max 0 ys) ≡ max a (max (max 0 y) (fold max 0 ys)) = omega arith in
    fold_max (max a y) ys ∙ (both ∙ ap (max a) (sym (fold_max (max 0 y) ys)))

-- One width more.
pub one_width : (width w : ℕ) (ws : List ℕ) → kept (fold max (max (kept w) width) ws) ≡ kept (fold max width (w ∷ ws))
one_width width w ws =
    let same : kept (max (max (kept w) width) (fold max 0 ws)) ≡ kept (max (max width w) (fold max 0 ws)) = omega arith in
    ap kept (fold_max (max (kept w) width) ws) ∙ (same ∙ sym (ap kept (fold_max (max width w) ws)))

-- The element at a place, and those behind it.
pub from_item : {X : Type 0} (xs : List X) (i : ℕ) (x : X) → i < length xs → x ≡ get_or xs i x → drop i xs ≡ x ∷ drop (i + 1) xs
from_item xs i x below is =
    let next : suc i ≡ i + 1 = omega arith in
    drop-cons xs i x below ∙ ap (λ y. y ∷ drop (suc i) xs) (sym is) ∙ ap (λ n. x ∷ drop n xs) next

-- A width that is kept after one more is.
pub kept_width : (width w : ℕ) → width ≤ 2 ^ 64 - 1 → max (kept w) width ≤ 2 ^ 64 - 1
kept_width width w small = omega (arith, small)
