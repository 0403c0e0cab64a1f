-- Lemmas on orders, which name each dimension once.
use Rattle.std.proofs.Common.{◌≡◌, ◌≢◌, ℕ, zero, suc, ◌+◌, ◌*◌, ◌<◌, ◌≤◌, min, Bool, true, false, not, ◌&&◌, nat_eq, nat_lt, List, [], ◌∷◌, length, get_or, set, map, replicate, ap, sym, ◌∙◌, refl, arith, get_or-set_other, length-set}
use Rattle.std.specs.List.{AllByRecursion, IsDistinct}
use Rattle.std.proofs.Math.Nat.{mul-pos}
use Rattle.std.proofs.lemmas.Bool.{eqb-false, ltb-true, not-true, and_parts}
use Rattle.std.proofs.lemmas.List.{length-replicate, length-map}
use Rattle.std.proofs.lemmas.List.Elements.{All-from_recursion, recursion_from_All}
use Rattle.kernel_permute.specs.Permuting.{IsOrder, picked, unpicked}
use Rattle.kernel_permute.specs.Positions.{product, along}
use Rattle.kernel_permute.proofs.ProductLemmas.{positive_left, positive_right}

-- the numbers added up
abbrev pub total : List ℕ → ℕ
total [] = 0
total (x ∷ xs) = x + total xs

-- no member is k
abbrev pub Lacks : ℕ → List ℕ → Type 0
Lacks k ks = AllByRecursion (λ j. nat_eq k j ≡ false) ks

-- each member is below n
abbrev pub AllBelow : ℕ → List ℕ → Type 0
AllBelow n ks = AllByRecursion (λ k. k < n) ks

total-set : (xs : List ℕ) (k : ℕ) → k < length xs → get_or xs k 0 + total (set xs k 0) ≡ total xs
total-set [] k below = absurd (omega arith)
total-set (x ∷ xs) zero below = omega arith
total-set (x ∷ xs) (suc k) below = let rest : get_or xs k 0 + total (set xs k 0) ≡ total xs = total-set xs k (omega arith) in omega arith

-- a member that no one picks may be anything
picked-set : (ks xs : List ℕ) (k y : ℕ) → Lacks k ks → picked ks (set xs k y) ≡ picked ks xs
picked-set [] xs k y lacks = refl
picked-set (j ∷ ks) xs k y lacks =
    let other : j ≢ k = λ e. eqb-false k j lacks.0 (sym e) in
    ap (λ r. get_or (set xs k y) j 0 ∷ r) (picked-set ks xs k y lacks.1) ∙ ap (λ v. v ∷ picked ks xs) (get_or-set_other xs k j y 0 other)

-- members that are picked once each are no more than all together
pub total-picked : (ks xs : List ℕ) → AllBelow (length xs) ks → IsDistinct nat_eq ks → total (picked ks xs) ≤ total xs
unfolding IsDistinct
total-picked [] xs below once = omega arith
total-picked (k ∷ ks) xs below once =
    let long : length (set xs k 0) ≡ length xs = length-set xs k 0 in
    let still : AllBelow (length (set xs k 0)) ks = rw long below.1 in
    let rest : total (picked ks (set xs k 0)) ≤ total (set xs k 0) = total-picked ks (set xs k 0) still once.1 in
    let same : total (picked ks (set xs k 0)) ≡ total (picked ks xs) = ap total (picked-set ks xs k 0 once.0) in
    let whole : get_or xs k 0 + total (set xs k 0) ≡ total xs = total-set xs k below.0 in
    omega arith

-- 1 for each dimension that is not 0
abbrev pub marks : List ℕ → List ℕ
marks ds = map (λ d. min d 1) ds

total-marks : (ds : List ℕ) → total (marks ds) ≤ length ds
total-marks [] = omega arith
total-marks (d ∷ ds) = let rest : total (marks ds) ≤ length ds = total-marks ds in omega arith

positive_from_marks : (ds : List ℕ) → length ds ≤ total (marks ds) → 0 < product ds
positive_from_marks [] full = omega arith
positive_from_marks (d ∷ ds) full =
    let most : total (marks ds) ≤ length ds = total-marks ds in
    let here : 0 < d = omega arith in
    mul-pos here (positive_from_marks ds (omega arith))

marks_picked : (ks ds : List ℕ) → AllBelow (length ds) ks → 0 < product (picked ks ds) → total (picked ks (marks ds)) ≡ length ks
marks_picked [] ds below some = refl
marks_picked (k ∷ ks) ds below some =
    let here : 0 < get_or ds k 0 = positive_left (get_or ds k 0) (product (picked ks ds)) some in
    let rest : total (picked ks (marks ds)) ≡ length ks = marks_picked ks ds below.1 (positive_right (get_or ds k 0) (product (picked ks ds)) some) in
    let mark : get_or (marks ds) k 0 ≡ min (get_or ds k 0) 1 = get_or-marks ds k below.0 in
    omega arith
  where
    get_or-marks : (ds : List ℕ) (k : ℕ) → k < length ds → get_or (marks ds) k 0 ≡ min (get_or ds k 0) 1
    get_or-marks [] k below = absurd (omega arith)
    get_or-marks (d ∷ ds) zero below = refl
    get_or-marks (d ∷ ds) (suc k) below = get_or-marks ds k (omega arith)

length-marks : (ds : List ℕ) → length (marks ds) ≡ length ds
length-marks ds = length-map ds (λ d. min d 1)

-- an order leaves out no dimension: where no picked one is 0, none is
pub positive_from_picked : (order dims : List ℕ) → IsOrder order → length order ≡ length dims → 0 < product (picked order dims) → 0 < product dims
positive_from_picked order dims is long some =
    let below : AllBelow (length order) order = recursion_from_All (λ k. k < length order) order is.within in
    let in_dims : AllBelow (length dims) order = rw long at below in
    let in_marks : AllBelow (length (marks dims)) order = rw length-marks in_dims in
    let full : total (picked order (marks dims)) ≡ length order = marks_picked order dims in_dims some in
    let most : total (picked order (marks dims)) ≤ total (marks dims) = total-picked order (marks dims) in_marks is.once in
    positive_from_marks dims (omega arith)

along-replicate : (ss : List ℕ) (n : ℕ) → along ss (replicate n 0) ≡ 0
along-replicate [] n = refl
along-replicate (s ∷ ss) zero = refl
along-replicate (s ∷ ss) (suc n) = let rest : along ss (replicate n 0) ≡ 0 = along-replicate ss n in omega arith

-- one number of a position moves it by so many strides
along-set : (ss xs : List ℕ) (k y : ℕ) → k < length ss → k < length xs → get_or xs k 0 ≡ 0 → along ss (set xs k y) ≡ y * get_or ss k 0 + along ss xs
along-set [] xs k y in_ss in_xs none = absurd (omega arith)
along-set (s ∷ ss) [] k y in_ss in_xs none = absurd (omega arith)
along-set (s ∷ ss) (x ∷ xs) zero y in_ss in_xs none = rw none (omega arith)
along-set (s ∷ ss) (x ∷ xs) (suc k) y in_ss in_xs none =
    let rest : along ss (set xs k y) ≡ y * get_or ss k 0 + along ss xs = along-set ss xs k y (omega arith) (omega arith) none in
    rw rest (omega arith)

length-unpicked : (n : ℕ) (ks ys : List ℕ) → length (unpicked n ks ys) ≡ n
length-unpicked n [] ys = length-replicate n 0
length-unpicked n (k ∷ ks) [] = length-replicate n 0
length-unpicked n (k ∷ ks) (y ∷ ys) = length-set (unpicked n ks ys) k y ∙ length-unpicked n ks ys

get_or-zeros : (n k : ℕ) → get_or {A = ℕ} (replicate n 0) k 0 ≡ 0
get_or-zeros zero k = refl
get_or-zeros (suc n) zero = refl
get_or-zeros (suc n) (suc k) = get_or-zeros n k

-- a dimension that is not named has 0
get_or-unpicked_other : (n : ℕ) (ks ys : List ℕ) (k : ℕ) → Lacks k ks → get_or (unpicked n ks ys) k 0 ≡ 0
get_or-unpicked_other n [] ys k lacks = get_or-zeros n k
get_or-unpicked_other n (j ∷ ks) [] k lacks = get_or-zeros n k
get_or-unpicked_other n (j ∷ ks) (y ∷ ys) k lacks =
    let other : k ≢ j = eqb-false k j lacks.0 in
    get_or-set_other (unpicked n ks ys) j k y 0 other ∙ get_or-unpicked_other n ks ys k lacks.1

-- along the picked strides a position lies as far as its tuple along all strides
pub along-picked : (n : ℕ) (ss ks ys : List ℕ) → length ss ≡ n → AllBelow n ks → IsDistinct nat_eq ks → along (picked ks ss) ys ≡ along ss (unpicked n ks ys)
unfolding IsDistinct
along-picked n ss [] ys long below once = sym (along-replicate ss n)
along-picked n ss (k ∷ ks) [] long below once = sym (along-replicate ss n)
along-picked n ss (k ∷ ks) (y ∷ ys) long below once =
    let in_ss : k < length ss = rw long below.0 in
    let in_xs : k < length (unpicked n ks ys) = rw (length-unpicked n ks ys) below.0 in
    let rest : along (picked ks ss) ys ≡ along ss (unpicked n ks ys) = along-picked n ss ks ys long below.1 once.1 in
    sym (along-set ss (unpicked n ks ys) k y in_ss in_xs (get_or-unpicked_other n ks ys k once.0) ∙ ap (λ r. y * get_or ss k 0 + r) (sym rest))

-- no member is k, as a test
abbrev pub lacks : ℕ → List ℕ → Bool
lacks k [] = true
lacks k (j ∷ ks) = not (nat_eq k j) && lacks k ks

abbrev pub differ : List ℕ → Bool
differ [] = true
differ (k ∷ ks) = lacks k ks && differ ks

abbrev pub all_below : ℕ → List ℕ → Bool
all_below n [] = true
all_below n (k ∷ ks) = nat_lt k n && all_below n ks

-- each dimension is named once, as a test
abbrev pub is_order : List ℕ → Bool
is_order order = all_below (length order) order && differ order

lacks_tells : (k : ℕ) (ks : List ℕ) → lacks k ks ≡ true → Lacks k ks
lacks_tells k [] is = tt
lacks_tells k (j ∷ ks) is = let parts = and_parts (not (nat_eq k j)) (lacks k ks) is in (not-true (nat_eq k j) parts.0, lacks_tells k ks parts.1)

differ_tells : (ks : List ℕ) → differ ks ≡ true → IsDistinct nat_eq ks
unfolding IsDistinct
differ_tells [] is = tt
differ_tells (k ∷ ks) is = let parts = and_parts (lacks k ks) (differ ks) is in (lacks_tells k ks parts.0, differ_tells ks parts.1)

below_tells : (n : ℕ) (ks : List ℕ) → all_below n ks ≡ true → AllBelow n ks
below_tells n [] is = tt
below_tells n (k ∷ ks) is = let parts = and_parts (nat_lt k n) (all_below n ks) is in (ltb-true k n parts.0, below_tells n ks parts.1)

-- an order that is written out
pub order_from_test : (order : List ℕ) → is_order order ≡ true → IsOrder order
order_from_test order is =
    let parts = and_parts (all_below (length order) order) (differ order) is in
    record {
      within = All-from_recursion (λ k. k < length order) order (below_tells (length order) order parts.0);
      once = differ_tells order parts.1;
    }
