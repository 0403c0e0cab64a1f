-- Positions and their numbers, offsets and sums.
use Rattle.std.proofs.Common.{◌≡◌, ℕ, ◌+◌, ◌*◌, ◌%◌, ◌<◌, ◌≤◌, zero, suc, refl, sym, ◌∙◌, arith, List, [], ◌∷◌, length, get_or, set, drop, lit<}
use Rattle.std.proofs.Math.Nat.{mul-le-mul_left}
use Rattle.std.proofs.lemmas.Nat.{mod-mul-add, div-mul-add, mod_below, div_below, div-add-mod'}
use Rattle.kernel_contract.proofs.Numbers.{factor_pos}
use Rattle.kernel_contract.specs.declared.axis.Axis.{Axis}
use Rattle.kernel_contract.specs.Positions.{IsPosition, offset, sum_over}
use Rattle.kernel_contract.specs.Sum.{sum_to}
use Rattle.kernel_contract.specs.Walks.{count, number, position_at}
use Rattle.kernel_contract.proofs.Sums.{sum_to-cong, sum_to-mul}

-- the axis at an index
abbrev pub axis_at : List Axis → ℕ → Axis
axis_at axes j = get_or axes j record { len = 0; a = 0; b = 0; to = 0 }

-- a position's number is one of the count
pub number_below : (axes : List Axis) (position : List ℕ) → IsPosition axes position → number axes position < count axes
number_below [] [] h = lit< tt
number_below [] (n ∷ ns) h = absurd h
number_below (x ∷ xs) [] h = absurd h
number_below (x ∷ xs) (n ∷ ns) h =
    let rest : number xs ns < count xs = number_below xs ns h.1 in
    let first : n + 1 ≤ x.len = omega arith in
    let grown : count xs * (n + 1) ≤ count xs * x.len = mul-le-mul_left (count xs) first in
    omega arith

-- every number of the count is a position's
pub IsPosition-position_at : (axes : List Axis) (k : ℕ) → k < count axes → IsPosition axes (position_at axes k)
IsPosition-position_at [] k h = tt
IsPosition-position_at (x ∷ xs) k h =
    let pos : 0 < count xs = factor_pos k x.len (count xs) h in
    (div_below k (count xs) x.len pos h, IsPosition-position_at xs (k % count xs) (mod_below k (count xs) pos))

-- a position is the one with its number
pub position_at-number : (axes : List Axis) (position : List ℕ) → IsPosition axes position → position_at axes (number axes position) ≡ position
position_at-number [] [] h = refl
position_at-number [] (n ∷ ns) h = absurd h
position_at-number (x ∷ xs) [] h = absurd h
position_at-number (x ∷ xs) (n ∷ ns) h =
    let below : number xs ns < count xs = number_below xs ns h.1 in
    rw (div-mul-add n (count xs) (number xs ns) below, mod-mul-add n (count xs) (number xs ns) below, position_at-number xs ns h.1)

-- a number is that of its position
pub number-position_at : (axes : List Axis) (k : ℕ) → k < count axes → number axes (position_at axes k) ≡ k
number-position_at [] k h = omega arith
number-position_at (x ∷ xs) k h =
    let pos : 0 < count xs = factor_pos k x.len (count xs) h in
    rw (number-position_at xs (k % count xs) (mod_below k (count xs) pos)) (div-add-mod' k (count xs))

-- the sum over all positions goes through their numbers
pub sum_over-sum_to : (axes : List Axis) (term : List ℕ → ℕ) → sum_over axes term ≡ sum_to (count axes) (λ k. term (position_at axes k))
sum_over-sum_to [] term = omega arith
sum_over-sum_to (x ∷ xs) term =
    sum_to-cong x.len (λ n. sum_over xs (λ position. term (n ∷ position)))
    (λ n. sum_to (count xs) (λ k. term (position_at (x ∷ xs) (n * count xs + k))))
    (λ n h. sum_over-sum_to xs (λ position. term (n ∷ position))
    ∙ sum_to-cong (count xs) (λ k. term (n ∷ position_at xs k)) (λ k. term (position_at (x ∷ xs) (n * count xs + k)))
    (λ k below. rw (div-mul-add n (count xs) k below, mod-mul-add n (count xs) k below)))
    ∙ sym (sum_to-mul x.len (count xs) (λ k. term (position_at (x ∷ xs) k)))

-- a digit of a position is below its axis's length
pub IsPosition-at : (axes : List Axis) (position : List ℕ) (j : ℕ) → j < length axes → IsPosition axes position → get_or position j 0 < (axis_at axes j).len
IsPosition-at [] position j low h = absurd (omega arith)
IsPosition-at (x ∷ xs) [] j low h = absurd h
IsPosition-at (x ∷ xs) (n ∷ ns) zero low h = h.0
IsPosition-at (x ∷ xs) (n ∷ ns) (suc j) low h = IsPosition-at xs ns j (omega arith) h.1

-- another digit may stand there
pub IsPosition-set : (axes : List Axis) (position : List ℕ) (j v : ℕ) → v < (axis_at axes j).len → IsPosition axes position → IsPosition axes (set position j v)
IsPosition-set [] position j v low h = absurd (omega arith)
IsPosition-set (x ∷ xs) [] j v low h = absurd h
IsPosition-set (x ∷ xs) (n ∷ ns) zero v low h = (low, h.1)
IsPosition-set (x ∷ xs) (n ∷ ns) (suc j) v low h = (h.0, IsPosition-set xs ns j v low h.1)

-- the offset then changes by the digit's
pub offset-set : (stride : Axis → ℕ) (axes : List Axis) (position : List ℕ) (j v : ℕ) → j < length axes → IsPosition axes position
    → offset stride axes (set position j v) + get_or position j 0 * stride (axis_at axes j) ≡ offset stride axes position + v * stride (axis_at axes j)
offset-set stride [] position j v low h = absurd (omega arith)
offset-set stride (x ∷ xs) [] j v low h = absurd h
offset-set stride (x ∷ xs) (n ∷ ns) zero v low h = omega arith
offset-set stride (x ∷ xs) (n ∷ ns) (suc j) v low h = omega (arith, offset-set stride xs ns j v (omega arith) h.1)

swapped : (p q r : ℕ) → p + q + r ≡ r + q + p
swapped p q r = omega arith

-- and the number by the digit's weight
pub number-set : (axes : List Axis) (position : List ℕ) (j v : ℕ) → j < length axes → IsPosition axes position
    → number axes (set position j v) + get_or position j 0 * count (drop (suc j) axes) ≡ number axes position + v * count (drop (suc j) axes)
number-set [] position j v low h = absurd (omega arith)
number-set (x ∷ xs) [] j v low h = absurd h
number-set (x ∷ xs) (n ∷ ns) zero v low h = swapped (v * count xs) (number xs ns) (n * count xs)
number-set (x ∷ xs) (n ∷ ns) (suc j) v low h = omega (arith, number-set xs ns j v (omega arith) h.1)

-- a weight is the next one times the length between
pub count-drop : (axes : List Axis) (j : ℕ) → j < length axes → count (drop j axes) ≡ (axis_at axes j).len * count (drop (suc j) axes)
count-drop [] j low = absurd (omega arith)
count-drop (x ∷ xs) zero low = refl
count-drop (x ∷ xs) (suc j) low = count-drop xs j (omega arith)
