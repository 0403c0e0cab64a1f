-- Sums axis by axis: from each number of the first axis on, the sum over the others.
use Rattle.std.proofs.Common.{◌≡◌, ℕ, suc, ◌+◌, ◌-◌, ◌*◌, ◌%◌, ◌^◌, ◌<◌, ◌≤◌, List, [], ◌∷◌, length, take, drop, get_or, ap, sym, subst, refl, ◌∙◌, arith}
use Rattle.std.proofs.lemmas.List.{take_all}
use Rattle.std.proofs.Math.Nat.{mod-add-mod}
use Rattle.kernel_contract.specs.Parts.{Reaches, sum_from}
use Rattle.kernel_contract.specs.Positions.{offset, offset_a, offset_b, sum_over}
use Rattle.kernel_contract.specs.declared.axis.Axis.{Axis}
use Rattle.kernel_contract.proofs.SourceLemmas.{sum_over-cong}

-- an offset may be added in two parts
pub added_along : (p step rest : ℕ) → ((p + step) % 2 ^ 64 + rest) % 2 ^ 64 ≡ (p + (step + rest)) % 2 ^ 64
added_along p step rest =
    let shape : p + step + rest ≡ p + (step + rest) = omega arith in
    mod-add-mod (p + step) (2 ^ 64) rest ∙ ap (λ t. t % 2 ^ 64) shape

-- what is reached along all axes is reached along the others from each number of the first
pub Reaches-along : (stride : Axis → ℕ) (x : Axis) (xs : List Axis) (p n len : ℕ) → Reaches (offset stride) (x ∷ xs) p len → n < x.len
    → Reaches (offset stride) xs ((p + n * stride x) % 2 ^ 64) len
Reaches-along stride x xs p n len reaches low s is = rw (added_along p (n * stride x) (offset stride xs s)) (reaches (n ∷ s) (low, is))

-- the products at one number of the first axis
abbrev pub terms_at : List ℕ → List ℕ → Axis → List Axis → ℕ → ℕ → ℕ → ℕ
terms_at a b x xs p q n =
    sum_over xs (λ s. get_or a ((p + offset_a (x ∷ xs) (n ∷ s)) % 2 ^ 64) 0 * get_or b ((q + offset_b (x ∷ xs) (n ∷ s)) % 2 ^ 64) 0)

-- are the sum from the offsets there
pub sum_from-along : (a b : List ℕ) (x : Axis) (xs : List Axis) (p q n : ℕ)
    → sum_from a b xs ((p + n * x.a) % 2 ^ 64) ((q + n * x.b) % 2 ^ 64) ≡ terms_at a b x xs p q n % 2 ^ 64
sum_from-along a b x xs p q n =
    ap (λ t. t % 2 ^ 64)
    (sum_over-cong xs
    (λ s. get_or a (((p + n * x.a) % 2 ^ 64 + offset_a xs s) % 2 ^ 64) 0 * get_or b (((q + n * x.b) % 2 ^ 64 + offset_b xs s) % 2 ^ 64) 0)
    (λ s. get_or a ((p + offset_a (x ∷ xs) (n ∷ s)) % 2 ^ 64) 0 * get_or b ((q + offset_b (x ∷ xs) (n ∷ s)) % 2 ^ 64) 0)
    (λ s _.
    let left = added_along p (n * x.a) (offset_a xs s) in
    let right = added_along q (n * x.b) (offset_b xs s) in
    rw (left, right)))

-- a single axis is reached at each of its numbers
pub reached_on_line : (stride : Axis → ℕ) (x : Axis) (p n len : ℕ) → Reaches (offset stride) (x ∷ []) p len → n < x.len → (p + n * stride x) % 2 ^ 64 < len
reached_on_line stride x p n len reaches low =
    let none : p + (n * stride x + 0) ≡ p + n * stride x = omega arith in
    let there : (p + (n * stride x + 0)) % 2 ^ 64 < len = reaches (n ∷ []) (low, tt) in
    rw none at there

-- a list of axes by its first, if it has one
abbrev pub first_of : List Axis → Axis
first_of axes = get_or axes 0 record { len = 0; a = 0; b = 0; to = 0 }

abbrev pub rest_of : List Axis → List Axis
rest_of axes = take (length axes - 1) (drop 1 axes)

pub none_left : (axes : List Axis) → length axes < 1 → axes ≡ []
none_left [] few = refl
none_left (x ∷ xs) few = absurd (omega arith)

pub first_and_rest : (axes : List Axis) → 1 ≤ length axes → axes ≡ first_of axes ∷ rest_of axes
first_and_rest [] some = absurd (omega arith)
first_and_rest (x ∷ xs) some =
    let len : suc (length xs) - 1 ≡ length xs = omega arith in
    let all : take (length xs) xs ≡ xs = take_all (length xs) xs (omega arith) in
    ap (λ (ys : List Axis). x ∷ ys) (sym (rw (len, all) refl))

pub first_alone : (axes : List Axis) → 1 ≤ length axes → length axes < 2 → axes ≡ first_of axes ∷ []
first_alone [] some few = absurd (omega arith)
first_alone (x ∷ []) some few = refl
first_alone (x ∷ y ∷ ys) some few = absurd (omega arith)

-- the product at the only position of no axes
pub sum_from-none : (a b : List ℕ) (axes : List Axis) (p q : ℕ) → length axes < 1
    → sum_from a b axes p q ≡ get_or a ((p + 0) % 2 ^ 64) 0 * get_or b ((q + 0) % 2 ^ 64) 0 % 2 ^ 64
sum_from-none a b axes p q few = ap (λ (xs : List Axis). sum_from a b xs p q) (none_left axes few)

-- which is reached
pub reached_at_none : (stride : Axis → ℕ) (axes : List Axis) (p len : ℕ) → length axes < 1 → Reaches (offset stride) axes p len → (p + 0) % 2 ^ 64 < len
reached_at_none stride axes p len few reaches =
    subst (λ (xs : List Axis). Reaches (offset stride) xs p len) (none_left axes few) reaches [] tt

-- from each number of the first axis the rest is reached
pub Reaches-rest : (stride : Axis → ℕ) (axes : List Axis) (p n len : ℕ) → 1 ≤ length axes → Reaches (offset stride) axes p len → n < (first_of axes).len
    → Reaches (offset stride) (rest_of axes) ((p + n * stride (first_of axes)) % 2 ^ 64) len
Reaches-rest stride axes p n len some reaches low =
    Reaches-along stride (first_of axes) (rest_of axes) p n len
    (subst (λ (xs : List Axis). Reaches (offset stride) xs p len) (first_and_rest axes some) reaches) low
