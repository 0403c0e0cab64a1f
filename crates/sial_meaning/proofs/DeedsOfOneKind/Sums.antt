-- What deeds of one kind come to.
use Rattle.std.proofs.Common.{◌≡◌, ℕ, ◌^◌, ◌<◌, ◌≤◌, max, List, [], ◌∷◌, map, Bool, true, false, cond, if◌then◌else◌, ◌⊎◌, ◌↔◌, inl, inr, ⊎_elim, refl, sym, ap, ◌∙◌, subst, arith, nat_le, fold}
use Rattle.std.specs.Prelude.{sum_by, count_by}
use Rattle.std.proofs.lemmas.Bool.Decides.{nat_tests}
use Rattle.std.proofs.lemmas.List.Sums.{sum_by-cons}
use Rattle.sial_syntax.specs.declared.access.Access.TheVariants as access
use Rattle.sial_syntax.specs.declared.access.Class.{Class}
use Rattle.sial_meaning.specs.Accepted.{is_add, is_max, is_store}
use Rattle.sial_meaning.specs.DeedSums.{element_at, writes_to, brings, AddsComeToTheSum, MaxesComeToTheGreatest, MaxesByCounts, OneStoreIsItsValue, OtherBlocksStay}
use Rattle.sial_meaning.specs.Deeds.{Deed, Reads, Writes, Adds, Traps, write_to}
use Rattle.sial_meaning.specs.Number.{plus}
use Rattle.sial_meaning.specs.State.{shared_block, accessed_words}
use Rattle.sial_meaning.proofs.AcceptedInOtherWords.Pairs.{count-next}
use Rattle.sial_meaning.proofs.DeedsOfOneKind.Writes.{write_is, kind_add, kind_max, kind_store, all_writes}

-- adds alone
pub adds_come : AddsComeToTheSum
adds_come shared class block place ds fits below =
    all_writes
    class
    block
    place
    is_add
    access.Add
    kind_add
    plus
    (λ a b. refl)
    refl
    (λ a ds c. a < 2 ^ 64 → c ≡ plus a (sum_by (brings class block place) ds))
    (λ a low. omega (arith, low))
    (λ d ds a c writes h low.
    let next : plus a (brings class block place d) < 2 ^ 64 = omega arith in
    let rest = h next in
    let more = sum_by-cons (brings class block place) d ds in
    omega (arith, rest, more))
    (λ d ds a c writes brings_none h low. let rest = h low in let more = sum_by-cons (brings class block place) d ds in omega (arith, rest, more, brings_none))
    ds
    shared
    fits
    below

-- maxes alone
pub maxes_come : MaxesComeToTheGreatest
maxes_come shared class block place ds fits =
    all_writes
    class
    block
    place
    is_max
    access.Max
    kind_max
    max
    (λ a b. refl)
    refl
    (λ a ds c. c ≡ fold max a (map (brings class block place) ds))
    (λ a. refl)
    (λ d ds a c writes h. h)
    (λ d ds a c writes brings_none h. let same : max a (brings class block place d) ≡ a = omega (arith, brings_none) in h ∙ ap (λ n. fold max n (map (brings class block place) ds)) (sym same))
    ds
    shared
    fits

-- one number is as great as another, or isn't
as_great : (n m : ℕ) → nat_le n m ≡ true → n ≤ m
as_great n m e = grind (arith, nat_tests)

not_as_great : (n m : ℕ) → nat_le n m ≡ false → m < n
not_as_great n m e = grind (arith, nat_tests)

-- maxes by counts
pub maxes_count : MaxesByCounts
maxes_count shared class block place number ds fits =
    all_writes
    class
    block
    place
    is_max
    access.Max
    kind_max
    max
    (λ a b. refl)
    refl
    (λ a ds c. (number ≤ c) ↔ ((number ≤ a) ⊎ (1 ≤ count_by (λ d. nat_le number (brings class block place d)) ds)))
    (λ a. (λ low. inl low, λ either. ⊎_elim (λ low. low) (λ (one : 1 ≤ count_by (λ d. nat_le number (brings class block place d)) []). absurd (omega (arith, one))) either))
    (λ d ds a c writes h. step d ds a c h)
    (λ d ds a c writes brings_none h. subst (λ (n : ℕ). (number ≤ c) ↔ ((number ≤ a) ⊎ (1 ≤ count_by (λ d. nat_le number (brings class block place d)) (d ∷ ds)))) brings_none (step d ds a c (subst (λ (n : ℕ). (number ≤ c) ↔ ((number ≤ n) ⊎ (1 ≤ count_by (λ d. nat_le number (brings class block place d)) ds))) (omega (arith, brings_none)) h)))
    ds
    shared
    fits
  where
    step : (d : Deed) (ds : List Deed) (a c : ℕ) → (number ≤ c) ↔ ((number ≤ max a (brings class block place d)) ⊎ (1 ≤ count_by (λ d. nat_le number (brings class block place d)) ds)) → (number ≤ c) ↔ ((number ≤ a) ⊎ (1 ≤ count_by (λ d. nat_le number (brings class block place d)) (d ∷ ds)))
    step d ds a c h = by_test (nat_le number (brings class block place d)) refl
      where
        by_test : (b : Bool) → nat_le number (brings class block place d) ≡ b → (number ≤ c) ↔ ((number ≤ a) ⊎ (1 ≤ count_by (λ d. nat_le number (brings class block place d)) (d ∷ ds)))
        by_test true e =
            let all = count-next (λ d. nat_le number (brings class block place d)) d ds in
            let one : ◌≡◌ {A = ℕ} (cond (nat_le number (brings class block place d)) 1 0) 1 = ap (λ b. cond b 1 0) e in
            let low : number ≤ brings class block place d = as_great number (brings class block place d) e in
            (λ high. inr (omega (arith, all, one)), λ either. h.1 (inl (omega (arith, low))))
        by_test false e =
            let all = count-next (λ d. nat_le number (brings class block place d)) d ds in
            let none : ◌≡◌ {A = ℕ} (cond (nat_le number (brings class block place d)) 1 0) 0 = ap (λ b. cond b 1 0) e in
            let high : brings class block place d < number = not_as_great number (brings class block place d) e in (
              λ up. ⊎_elim (λ (low : number ≤ max a (brings class block place d)). inl (omega (arith, low, high))) (λ (one : 1 ≤ count_by (λ d. nat_le number (brings class block place d)) ds). inr (omega (arith, all, none, one))) (h.0 up),
              λ either. ⊎_elim (λ (low : number ≤ a). h.1 (inl (omega (arith, low)))) (λ (one : 1 ≤ count_by (λ d. nat_le number (brings class block place d)) (d ∷ ds)). h.1 (inr (omega (arith, all, none, one)))) either,
            )

-- a store sets
abbrev second : ℕ → ℕ → ℕ
second a b = b

-- no write among some deeds
none_written : (class : Class) (block place : ℕ) (d : Deed) (ds : List Deed) → count_by (writes_to class block) (d ∷ ds) ≡ 0 → (writes_to class block d ≡ false) × (count_by (writes_to class block) ds ≡ 0)
none_written class block place d ds e = by_test (writes_to class block d) refl
  where
    by_test : (b : Bool) → writes_to class block d ≡ b → (writes_to class block d ≡ false) × (count_by (writes_to class block) ds ≡ 0)
    by_test true w =
        let all = count-next (writes_to class block) d ds in
        let one : ◌≡◌ {A = ℕ} (cond (writes_to class block d) 1 0) 1 = ap (λ b. cond b 1 0) w in
        absurd (omega (arith, all, one, e))
    by_test false w =
        let all = count-next (writes_to class block) d ds in
        let none : ◌≡◌ {A = ℕ} (cond (writes_to class block d) 1 0) 0 = ap (λ b. cond b 1 0) w in
        (w, omega (arith, all, none, e))

-- nothing is brought where no deed writes the block
brings_nothing : (class : Class) (block place : ℕ) (d : Deed) → writes_to class block d ≡ false → ◌≡◌ {A = ℕ} (brings class block place d) 0
brings_nothing class block place (Reads t) e = refl
brings_nothing class block place (Writes t words) e = ap (λ b. if b then element_at words place else 0) e
brings_nothing class block place (Adds s n) e = refl
brings_nothing class block place (Traps t) e = refl

-- nor by any of them
sum_nothing : (class : Class) (block place : ℕ) (ds : List Deed) → count_by (writes_to class block) ds ≡ 0 → ◌≡◌ {A = ℕ} (sum_by (brings class block place) ds) 0
sum_nothing class block place [] e = refl
sum_nothing class block place (d ∷ ds) e =
    let parts = none_written class block place d ds e in
    let more = sum_by-cons (brings class block place) d ds in
    let here = brings_nothing class block place d parts.0 in
    let rest = sum_nothing class block place ds parts.1 in
    omega (arith, more, here, rest)

-- one store
pub store_is : OneStoreIsItsValue
store_is shared class block place ds fits once =
    (all_writes
    class
    block
    place
    is_store
    access.Store
    kind_store
    second
    (λ a b. refl)
    refl
    (λ a ds c. (count_by (writes_to class block) ds ≡ 0 → c ≡ a) × (count_by (writes_to class block) ds ≡ 1 → c ≡ sum_by (brings class block place) ds))
    (λ a. (λ none. refl, λ (one : ◌≡◌ {A = ℕ} 0 1). absurd (omega (arith, one))))
    (λ d ds a c writes h.
    let all = count-next (writes_to class block) d ds in
    let this : ◌≡◌ {A = ℕ} (cond (writes_to class block d) 1 0) 1 = ap (λ b. cond b 1 0) writes in
    let more = sum_by-cons (brings class block place) d ds in (
      λ none. absurd (omega (arith, all, this, none)),
      λ one.
          let others : count_by (writes_to class block) ds ≡ 0 = omega (arith, all, this, one) in
          let last = h.0 others in
          let nothing = sum_nothing class block place ds others in
          omega (arith, last, nothing, more),
    ))
    (λ d ds a c writes brings_none h.
    let all = count-next (writes_to class block) d ds in
    let this : ◌≡◌ {A = ℕ} (cond (writes_to class block d) 1 0) 0 = ap (λ b. cond b 1 0) writes in
    let more = sum_by-cons (brings class block place) d ds in (
      λ none. h.0 (omega (arith, all, this, none)),
      λ one. let last = h.1 (omega (arith, all, this, one)) in omega (arith, last, more, brings_none),
    ))
    ds
    shared
    fits).1
    once

-- no write
pub others_stay : OtherBlocksStay
others_stay shared class block [] none = refl
others_stay shared class block (Reads t ∷ ds) none = others_stay shared class block ds (none_written class block 0 (Reads t) ds none).1
others_stay shared class block (Adds s n ∷ ds) none = others_stay shared class block ds (none_written class block 0 (Adds s n) ds none).1
others_stay shared class block (Traps t ∷ ds) none = others_stay shared class block ds (none_written class block 0 (Traps t) ds none).1
others_stay shared class block (Writes t words ∷ ds) none =
    let parts = none_written class block 0 (Writes t words) ds none in
    others_stay (write_to t words shared) class block ds parts.1
    ∙ (write_is t words shared class block ∙ ap (λ b. if b then accessed_words t.kind (shared_block shared class block) words else shared_block shared class block) parts.0)
