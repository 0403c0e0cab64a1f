-- The elements of all blocks, as a product of positions.
use Rattle.std.proofs.Common.{◌≡◌, ℕ, ◌+◌, ◌*◌, ◌-◌, ◌^◌, min, List, [], ◌∷◌, map, refl, sym, ap, ◌∙◌, arith}
use Rattle.std.proofs.lemmas.List.Sums.{sum_by-append, sum_by-cons}
use Rattle.std.specs.Prelude.{flat_map, sum_by}
use Rattle.sial_syntax.proofs.BoxLemmas.{numbers-shift, numbers-split, tuples-are}
use Rattle.sial_syntax.specs.Boxes.{numbers_from, tuple_at, tuples, volume}
use Rattle.sial_syntax.specs.Spaces.{Spaces, box_of, count_of, first_of, kind_of, onto_firsts, segment, words_in}
use Rattle.index_spaces.specs.Elements.{elements_over, positions_of}

-- a sum over what each element has become
sum-map : {X Y : Type 0} (w : Y → ℕ) (f : X → Y) (xs : List X) → sum_by w (map f xs) ≡ sum_by (λ x. w (f x)) xs
sum-map w f [] = refl
sum-map w f (x ∷ xs) = sum_by-cons w (f x) (map f xs) ∙ (ap (λ n. w (f x) + n) (sum-map w f xs) ∙ sym (sum_by-cons (λ y. w (f y)) x xs))

-- a sum over the rows of all elements
sum-rows : {X Y : Type 0} (w : Y → ℕ) (f : X → List Y) (xs : List X) → sum_by w (flat_map f xs) ≡ sum_by (λ x. sum_by w (f x)) xs
sum-rows w f [] = refl
sum-rows w f (x ∷ xs) =
    sum_by-append w (f x) (flat_map f xs) ∙ (ap (λ n. sum_by w (f x) + n) (sum-rows w f xs) ∙ sym (sum_by-cons (λ y. sum_by w (f y)) x xs))

-- a sum of values that are the same
sum-same : {X : Type 0} (f g : X → ℕ) (xs : List X) → ((x : X) → f x ≡ g x) → sum_by f xs ≡ sum_by g xs
sum-same f g [] same = refl
sum-same f g (x ∷ xs) same =
    sum_by-cons f x xs ∙ (ap (λ n. n + sum_by f xs) (same x) ∙ (ap (λ n. g x + n) (sum-same f g xs same) ∙ sym (sum_by-cons g x xs)))

-- a sum of products with one factor
sum-times : {X : Type 0} (f : X → ℕ) (c : ℕ) (xs : List X) → sum_by (λ x. f x * c) xs ≡ sum_by f xs * c
sum-times f c [] = let none : 0 * c ≡ 0 = omega arith in sym none
sum-times f c (x ∷ xs) =
    let more : (f x + sum_by f xs) * c ≡ f x * c + sum_by f xs * c = omega arith in
    sum_by-cons (λ y. f y * c) x xs ∙ (ap (λ n. f x * c + n) (sum-times f c xs) ∙ (sym more ∙ ap (λ n. n * c) (sym (sum_by-cons f x xs))))

sum-times_left : {X : Type 0} (f : X → ℕ) (c : ℕ) (xs : List X) → sum_by (λ x. c * f x) xs ≡ c * sum_by f xs
sum-times_left f c [] = let none : c * 0 ≡ 0 = omega arith in sym none
sum-times_left f c (x ∷ xs) =
    let more : c * (f x + sum_by f xs) ≡ c * f x + c * sum_by f xs = omega arith in
    sum_by-cons (λ y. c * f y) x xs ∙ (ap (λ n. c * f x + n) (sum-times_left f c xs) ∙ (sym more ∙ ap (λ n. c * n) (sym (sum_by-cons f x xs))))

-- the words of a block by its tuple from the firsts
abbrev words_at : Spaces → List ℕ → List ℕ → ℕ
words_at spaces dims tuple = words_in spaces dims (onto_firsts spaces dims tuple)

-- over all tuples
over_tuples : (spaces : Spaces) (dims : List ℕ) → sum_by (words_at spaces dims) (tuples (box_of spaces dims)) ≡ volume (map (positions_of spaces) dims)
over_tuples spaces [] = refl
over_tuples spaces (i ∷ is) =
    let len : ℕ → ℕ = λ k. (segment spaces (kind_of spaces i) k).len in
    let all = sum_by (words_at spaces is) (tuples (box_of spaces is)) in
    let rows : ℕ → List (List ℕ) = λ k. map (λ t. k ∷ t) (tuples (box_of spaces is)) in
    let row : (k : ℕ) → sum_by (words_at spaces (i ∷ is)) (rows k) ≡ len (first_of spaces i + k) * all =
    λ k. sum-map (words_at spaces (i ∷ is)) (λ t. k ∷ t) (tuples (box_of spaces is))
    ∙ sum-times_left (words_at spaces is) (len (first_of spaces i + k)) (tuples (box_of spaces is)) in
    sum-rows (words_at spaces (i ∷ is)) rows (numbers_from 0 (count_of spaces i))
    ∙ (sum-same (λ k. sum_by (words_at spaces (i ∷ is)) (rows k)) (λ k. len (first_of spaces i + k) * all) (numbers_from 0 (count_of spaces i)) row
    ∙ (sum-times (λ k. len (first_of spaces i + k)) all (numbers_from 0 (count_of spaces i))
    ∙ (ap (λ n. n * all) (sym (sum-map len (λ k. first_of spaces i + k) (numbers_from 0 (count_of spaces i))) ∙ ap (sum_by len) (numbers-shift (first_of spaces i) (count_of spaces i)))
    ∙ ap (λ n. positions_of spaces i * n) (over_tuples spaces is))))

-- The elements of all blocks are the product of the positions of the indices.
pub elements_are : (spaces : Spaces) (dims : List ℕ) → elements_over spaces dims ≡ volume (map (positions_of spaces) dims)
elements_are spaces dims =
    sym (sum-map (words_at spaces dims) (tuple_at (box_of spaces dims)) (numbers_from 0 (volume (box_of spaces dims))))
    ∙ (ap (sum_by (words_at spaces dims)) (sym (tuples-are (box_of spaces dims))) ∙ over_tuples spaces dims)

pub elements_by_positions : (spaces : Spaces) (dims : List ℕ) → min (volume (map (positions_of spaces) dims)) (2 ^ 64 - 1) ≡ min (elements_over spaces dims) (2 ^ 64 - 1)
elements_by_positions spaces dims = ap (λ n. min n (2 ^ 64 - 1)) (sym (elements_are spaces dims))

-- One more number of a row.
pub one_more : (f : ℕ → ℕ) (first turn : ℕ) → sum_by f (numbers_from first (turn + 1)) ≡ sum_by f (numbers_from first turn) + f (first + turn)
one_more f first turn =
    let last : 0 + f (first + turn) ≡ f (first + turn) = omega arith in
    ap (sum_by f) (numbers-split first turn 1)
    ∙ (sum_by-append f (numbers_from first turn) (numbers_from (first + turn) 1) ∙ ap (λ n. sum_by f (numbers_from first turn) + n) last)
