-- Targets that lie by rows are all different.
use Rattle.std.proofs.Common.{◌≡◌, ℕ, ◌+◌, ◌-◌, ◌*◌, ◌/◌, ◌%◌, ◌<◌, ◌≤◌, List, [], ◌∷◌, Bool, true, false, cond, ◌&&◌, ◌||◌, nat_lt, refl, ap, sym, ◌∙◌, arith}
use Rattle.std.proofs.Math.Nat.{mul-le-mul_right}
use Rattle.std.proofs.lemmas.Bool.Decides.{nat_tests}
use Rattle.std.proofs.lemmas.Nat.{mod-mul-add, div-mul-add}
use Rattle.kernel_contract.specs.Contraction.{Fits}
use Rattle.kernel_contract.specs.Order.{by_rows, greatest, keeps_apart, nested, nested_alone, nested_beside, stride_in}
use Rattle.kernel_contract.specs.Positions.{IsPosition, offset}
use Rattle.kernel_contract.specs.declared.axis.Axis.{Axis}
use Rattle.kernel_contract.specs.declared.order.Side.TheVariants.{A, B, To}
use Rattle.kernel_contract.proofs.WalkLemmas.{both_true}

below_true : (n m : ℕ) → nat_lt n m ≡ true → n < m
below_true n m e = grind (arith, nat_tests)

-- no position has a greater offset than the greatest
pub offset-le : (stride : Axis → ℕ) (axes : List Axis) (position : List ℕ) → IsPosition axes position → offset stride axes position ≤ greatest stride axes
offset-le stride [] [] p = omega arith
offset-le stride [] (n ∷ ns) p = absurd p
offset-le stride (x ∷ xs) [] p = absurd p
offset-le stride (x ∷ xs) (n ∷ ns) p =
    let low : n < x.len = p.0 in
    let last : n ≤ x.len - 1 = omega arith in
    let first : n * stride x ≤ (x.len - 1) * stride x = mul-le-mul_right (stride x) last in
    let rest = offset-le stride xs ns p.1 in
    omega (arith, first, rest)

-- a number with a digit and a rest below its weight has no other such form
same_digits : (n m w r s : ℕ) → r < w → s < w → n * w + r ≡ m * w + s → (n ≡ m) × (r ≡ s)
same_digits n m w r s hr hs e = (
  sym (div-mul-add n w r hr) ∙ ap (λ t. t / w) e ∙ div-mul-add m w s hs,
  sym (mod-mul-add n w r hr) ∙ ap (λ t. t % w) e ∙ mod-mul-add m w s hs,
)

-- where one axis keeps its positions apart, its numbers agree, and so do the others' offsets
apart_same : (x : Axis) (first second : List Axis) (y z : ℕ) (f h g k : List ℕ) → keeps_apart x first second ≡ true → y < x.len → z < x.len → IsPosition first f → IsPosition first h → IsPosition second g → IsPosition second k
    → y * x.to + (offset (stride_in To) first f + offset (stride_in To) second g) ≡ z * x.to + (offset (stride_in To) first h + offset (stride_in To) second k)
    → (y ≡ z) × (offset (stride_in To) first f + offset (stride_in To) second g ≡ offset (stride_in To) first h + offset (stride_in To) second k)
apart_same x first second y z f h g k is below_y below_z pf ph pg pk same = by_length (nat_lt x.len 2) refl is
  where
    by_length : (b : Bool) → nat_lt x.len 2 ≡ b → (b || nat_lt (greatest (stride_in To) first + greatest (stride_in To) second) x.to) ≡ true → (y ≡ z) × (offset (stride_in To) first f + offset (stride_in To) second g ≡ offset (stride_in To) first h + offset (stride_in To) second k)
    by_length true one e =
        let short : x.len < 2 = below_true x.len 2 one in
        let head : y ≡ z = omega arith in
        let begin : y * x.to ≡ z * x.to = ap (λ n. n * x.to) head in
        (head, omega (arith, same, begin))
    by_length false one e =
        let long = below_true (greatest (stride_in To) first + greatest (stride_in To) second) x.to e in
        same_digits y z x.to (offset (stride_in To) first f + offset (stride_in To) second g) (offset (stride_in To) first h + offset (stride_in To) second k)
        (omega (arith, long, offset-le (stride_in To) first f pf, offset-le (stride_in To) second g pg))
        (omega (arith, long, offset-le (stride_in To) first h ph, offset-le (stride_in To) second k pk)) same

alone_same : (axes : List Axis) (g k : List ℕ) → nested_alone axes ≡ true → IsPosition axes g → IsPosition axes k → offset (stride_in To) axes g ≡ offset (stride_in To) axes k → g ≡ k
alone_same [] [] [] is pg pk same = refl
alone_same [] (m ∷ ms) k is pg pk same = absurd pg
alone_same [] [] (m ∷ ms) is pg pk same = absurd pk
alone_same (x ∷ xs) [] k is pg pk same = absurd pg
alone_same (x ∷ xs) (m ∷ ms) [] is pg pk same = absurd pk
alone_same (x ∷ xs) (m ∷ ms) (n ∷ ns) is pg pk same =
    let both = both_true (keeps_apart x [] xs) (nested_alone xs) is in
    let digits = apart_same x [] xs m n [] [] ms ns both.0 pg.0 pk.0 tt tt pg.1 pk.1 (omega (arith, same)) in
    let head = digits.0 in
    let tail = alone_same xs ms ns both.1 pg.1 pk.1 (omega (arith, digits.1)) in
    cc

-- what is to be shown of two lists: a sum of two offsets comes from one pair of positions
abbrev OnePair : List Axis → List Axis → Type 0
OnePair first second = (f h g k : List ℕ) → IsPosition first f → IsPosition first h → IsPosition second g → IsPosition second k
    → offset (stride_in To) first f + offset (stride_in To) second g ≡ offset (stride_in To) first h + offset (stride_in To) second k
    → (f ≡ h) × (g ≡ k)

-- an axis before the first list
one_more : (x : Axis) (xs second : List Axis) → keeps_apart x xs second ≡ true → OnePair xs second → OnePair (x ∷ xs) second
one_more x xs second is rest [] h g k pf ph pg pk same = absurd pf
one_more x xs second is rest (m ∷ ms) [] g k pf ph pg pk same = absurd ph
one_more x xs second is rest (m ∷ ms) (n ∷ ns) g k pf ph pg pk same =
    let digits = apart_same x xs second m n ms ns g k is pf.0 ph.0 pf.1 ph.1 pg pk (omega (arith, same)) in
    let others = rest ms ns g k pf.1 ph.1 pg pk digits.1 in
    let head = digits.0 in
    let tail = others.0 in
    (cc, others.1)

-- and before the second one
one_more_after : (y : Axis) (first ys : List Axis) → keeps_apart y first ys ≡ true → OnePair first ys → OnePair first (y ∷ ys)
one_more_after y first ys is rest f h [] k pf ph pg pk same = absurd pg
one_more_after y first ys is rest f h (m ∷ ms) [] pf ph pg pk same = absurd pk
one_more_after y first ys is rest f h (m ∷ ms) (n ∷ ns) pf ph pg pk same =
    let digits = apart_same y first ys m n f h ms ns is pg.0 pk.0 pf ph pg.1 pk.1 (omega (arith, same)) in
    let others = rest f h ms ns pf ph pg.1 pk.1 digits.1 in
    let head = digits.0 in
    let tail = others.1 in
    (others.0, cc)

beside_same : (x : Axis) (xs : List Axis) (go : (second : List Axis) → nested xs second ≡ true → OnePair xs second) (second : List Axis) → nested_beside x xs (nested xs) second ≡ true → OnePair (x ∷ xs) second
beside_same x xs go [] is =
    let both = both_true (keeps_apart x xs []) (nested xs []) is in
    one_more x xs [] both.0 (go [] both.1)
beside_same x xs go (y ∷ ys) is = by_stride (beside_same x xs go ys) (nat_lt y.to x.to) is
  where
    by_stride : (nested_beside x xs (nested xs) ys ≡ true → OnePair (x ∷ xs) ys) → (b : Bool) → cond b (keeps_apart x xs (y ∷ ys) && nested xs (y ∷ ys)) (keeps_apart y (x ∷ xs) ys && nested_beside x xs (nested xs) ys) ≡ true → OnePair (x ∷ xs) (y ∷ ys)
    by_stride next true e =
        let both = both_true (keeps_apart x xs (y ∷ ys)) (nested xs (y ∷ ys)) e in
        one_more x xs (y ∷ ys) both.0 (go (y ∷ ys) both.1)
    by_stride next false e =
        let both = both_true (keeps_apart y (x ∷ xs) ys) (nested_beside x xs (nested xs) ys) e in
        one_more_after y (x ∷ xs) ys both.0 (next both.1)

nothing_before : (second : List Axis) → nested_alone second ≡ true → OnePair [] second
nothing_before second is [] [] g k pf ph pg pk same = (refl, alone_same second g k is pg pk (omega (arith, same)))
nothing_before second is (m ∷ ms) h g k pf ph pg pk same = absurd pf
nothing_before second is [] (m ∷ ms) g k pf ph pg pk same = absurd ph

-- so under nested strides a sum of two offsets comes from one pair
pub nested_same : (first second : List Axis) → nested first second ≡ true → OnePair first second
nested_same [] second is = nothing_before second is
nested_same (x ∷ xs) second is = beside_same x xs (nested_same xs) second is

-- where the target lies by rows the lists fit
pub Fits-by_rows : (a b to : ℕ) (free_a free_b shared : List Axis) → by_rows a b to free_a free_b shared ≡ true → Fits a b to free_a free_b shared
Fits-by_rows a b to free_a free_b shared e =
    let third = both_true _ _ e in
    let second = both_true _ _ third.0 in
    let first = both_true _ _ second.0 in
    let in_a = below_true (greatest (stride_in A) free_a + greatest (stride_in A) shared) a first.0 in
    let in_b = below_true (greatest (stride_in B) free_b + greatest (stride_in B) shared) b first.1 in
    let in_to = below_true (greatest (stride_in To) free_a + greatest (stride_in To) free_b) to second.1 in
    record {
      in_a = λ f g s pf pg ps. omega (arith, in_a, offset-le (stride_in A) free_a f pf, offset-le (stride_in A) shared s ps);
      in_b = λ f g s pf pg ps. omega (arith, in_b, offset-le (stride_in B) free_b g pg, offset-le (stride_in B) shared s ps);
      in_to = λ f g pf pg. omega (arith, in_to, offset-le (stride_in To) free_a f pf, offset-le (stride_in To) free_b g pg);
      differ = λ f g h k pf pg ph pk same. nested_same free_a free_b third.1 f h g k pf ph pg pk same;
    }
