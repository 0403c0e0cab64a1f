-- Deeds of one kind come to the same in another order.
use Rattle.std.proofs.Common.{◌≡◌, ℕ, ◌≤◌, List, [], ◌∷◌, length, Bool, true, false, cond, ◌&&◌, ◌⊎◌, ⊎_elim, refl, sym, ap, ◌∙◌, subst, arith, nat_le}
use Rattle.std.specs.Prelude.{sum_by, count_by}
use Rattle.std.specs.List.{list_all}
use Rattle.std.specs.List.Sorted.{IsPermutation}
use Rattle.std.proofs.lemmas.Bool.{and_parts}
use Rattle.std.proofs.lemmas.List.Sums.{sum_by-cons}
use Rattle.std.proofs.lemmas.List.Sorted.{sum_by-IsPermutation}
use Rattle.sial_meaning.specs.Accepted.{is_add, is_max, is_store}
use Rattle.sial_meaning.specs.DeedSums.{writes_to, brings, is_only, AreOnly, element_in, OrderDoesNotMatter}
use Rattle.sial_meaning.specs.Deeds.{written}
use Rattle.sial_meaning.specs.Number.{plus}
use Rattle.sial_meaning.specs.State.{shared_block}
use Rattle.sial_meaning.proofs.DeedsOfOneKind.Sums.{adds_come, maxes_count, store_is}

-- a test that holds of all fails of none
all_by_sum : {X : Type 0} (p : X → Bool) (xs : List X) → list_all p xs ≡ true → ◌≡◌ {A = ℕ} (sum_by (λ x. cond (p x) 0 1) xs) 0
all_by_sum p [] e = refl
all_by_sum p (x ∷ xs) e =
    let parts = and_parts (p x) (list_all p xs) e in
    let more = sum_by-cons (λ x. cond (p x) 0 1) x xs in
    let here : ◌≡◌ {A = ℕ} (cond (p x) 0 1) 0 = ap (λ b. cond b 0 1) parts.0 in
    let rest = all_by_sum p xs parts.1 in
    omega (arith, more, here, rest)

sum_by_all : {X : Type 0} (p : X → Bool) (xs : List X) → ◌≡◌ {A = ℕ} (sum_by (λ x. cond (p x) 0 1) xs) 0 → list_all p xs ≡ true
sum_by_all p [] e = refl
sum_by_all p (x ∷ xs) e = by_test (p x) refl (sum_by_all p xs)
  where
    by_test : (b : Bool) → p x ≡ b → (◌≡◌ {A = ℕ} (sum_by (λ x. cond (p x) 0 1) xs) 0 → list_all p xs ≡ true) → list_all p (x ∷ xs) ≡ true
    by_test true h rest =
        let more = sum_by-cons (λ x. cond (p x) 0 1) x xs in
        ap (λ b. b && list_all p xs) h ∙ rest (omega (arith, more, e))
    by_test false h rest =
        let more = sum_by-cons (λ x. cond (p x) 0 1) x xs in
        let one : ◌≡◌ {A = ℕ} (cond (p x) 0 1) 1 = ap (λ b. cond b 0 1) h in
        absurd (omega (arith, more, one, e))

-- such a test doesn't depend on the order
all_permuted : {X : Type 0} (p : X → Bool) (xs ys : List X) → IsPermutation xs ys → list_all p xs ≡ true → list_all p ys ≡ true
all_permuted p xs ys perm e = sum_by_all p ys (sum_by-IsPermutation (λ x. cond (p x) 0 1) xs ys perm ∙ all_by_sum p xs e)

-- deeds of one kind in another order
pub order_is_free : OrderDoesNotMatter
order_is_free shared class block place ds es alike low perm =
    ⊎_elim
    (λ (fits : AreOnly shared class block is_add ds).
    adds_come shared class block place es (all_permuted (is_only class block is_add (length (shared_block shared class block))) ds es perm fits) low
    ∙ (ap (plus (element_in shared class block place)) (sum_by-IsPermutation (brings class block place) ds es perm) ∙ sym (adds_come shared class block place ds fits low)))
    (λ (other : AreOnly shared class block is_max ds ⊎ (AreOnly shared class block is_store ds × (count_by (writes_to class block) ds ≡ 1))).
    ⊎_elim
    (λ (fits : AreOnly shared class block is_max ds). greatest_same fits)
    (λ (one : AreOnly shared class block is_store ds × (count_by (writes_to class block) ds ≡ 1)).
    store_is
    shared
    class
    block
    place
    es
    (all_permuted (is_only class block is_store (length (shared_block shared class block))) ds es perm one.0)
    (sum_by-IsPermutation (λ d. cond (writes_to class block d) 1 0) ds es perm ∙ one.1)
    ∙ (sum_by-IsPermutation (brings class block place) ds es perm ∙ sym (store_is shared class block place ds one.0 one.1)))
    other)
    alike
  where
    greatest_same : AreOnly shared class block is_max ds → element_in (written es shared) class block place ≡ element_in (written ds shared) class block place
    greatest_same fits =
        let also : AreOnly shared class block is_max es = all_permuted (is_only class block is_max (length (shared_block shared class block))) ds es perm fits in
        let same : (n : ℕ) → count_by (λ d. nat_le n (brings class block place d)) es ≡ count_by (λ d. nat_le n (brings class block place d)) ds =
        λ n. sum_by-IsPermutation (λ d. cond (nat_le n (brings class block place d)) 1 0) ds es perm in
        let a : ℕ = element_in (written ds shared) class block place in
        let b : ℕ = element_in (written es shared) class block place in
        let up : a ≤ b =
        (maxes_count shared class block place a es also).1
        (subst
        (λ (n : ℕ). (a ≤ element_in shared class block place) ⊎ (1 ≤ n))
        (sym (same a))
        ((maxes_count shared class block place a ds fits).0 (omega arith))) in
        let down : b ≤ a =
        (maxes_count shared class block place b ds fits).1
        (subst
        (λ (n : ℕ). (b ≤ element_in shared class block place) ⊎ (1 ≤ n))
        (same b)
        ((maxes_count shared class block place b es also).0 (omega arith))) in
        omega (arith, up, down)
