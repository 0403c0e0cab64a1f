-- Counts of members, lengths of lists without some, and lists with one member replaced.
use Rattle.std.proofs.Common.{◌≡◌, ℕ, zero, suc, ◌+◌, ◌<◌, ◌≤◌, ⊎_elim, Bool, true, false, List, [], ◌∷◌, ◌++◌, refl, sym, subst, arith}
use Rattle.std.specs.Prelude.{map, filter, length, replicate, count_by, slice_set, slice_index_or, ◌&&◌, not, if◌then◌else◌}
use Rattle.std.specs.List.{list_any, list_all}
use Rattle.std.proofs.lemmas.Bool.{cases_eq}
use Rattle.std.proofs.lemmas.List.{get_or-set_same, get_or-set_other}
use Rattle.std.proofs.lemmas.List.Recursion.{is_count_by}
use Rattle.sial_syntax.specs.Boxes.{numbers_from}

-- 1 where a test holds
abbrev pub one_if : Bool → ℕ
one_if true = 1
one_if false = 0

-- how many members pass a test
abbrev pub counted : {A : Type 0} → (A → Bool) → List A → ℕ
counted p [] = 0
counted p (x ∷ xs) = one_if (p x) + counted p xs

-- that is the standard count
pub counted-is : {A : Type 0} (p : A → Bool) (xs : List A) → counted p xs ≡ count_by p xs
counted-is {A = A} p xs = is_count_by (counted p) p refl more xs
  where
    more : (x : A) (ys : List A) → counted p (x ∷ ys) ≡ (if p x then 1 + counted p ys else counted p ys)
    more x ys = go (p x)
      where
        go : (b : Bool) → one_if b + counted p ys ≡ (if b then 1 + counted p ys else counted p ys)
        go true = refl
        go false = omega arith

-- of two lists together
pub counted-append : {A : Type 0} (p : A → Bool) (xs ys : List A) → counted p (xs ++ ys) ≡ counted p xs + counted p ys
counted-append p [] ys = omega arith
counted-append p (x ∷ xs) ys = omega (arith, counted-append p xs ys)

-- with one member between
pub counted-mid : {A : Type 0} (p : A → Bool) (xs : List A) (x : A) (ys : List A)
    → counted p (xs ++ x ∷ ys) ≡ counted p (xs ++ ys) + one_if (p x)
counted-mid p xs x ys = omega (arith, counted-append p xs (x ∷ ys), counted-append p xs ys)

-- what doesn't fall short
pub one-if-most : (b : Bool) → one_if b ≤ 1
one-if-most true = omega arith
one-if-most false = omega arith

-- both of two tests
pub both-true : (a b : Bool) → (a && b) ≡ true → (a ≡ true) × (b ≡ true)
both-true true b e = (refl, e)
both-true false b e = absurd cc

-- a list without the members that pass a test is no longer
pub filter-short : {A : Type 0} (p : A → Bool) (xs : List A) → length (filter p xs) ≤ length xs
filter-short p [] = omega arith
filter-short p (x ∷ xs) = go (p x) refl (filter-short p xs)
  where
    go : (b : Bool) → p x ≡ b → length (filter p xs) ≤ length xs → length (filter p (x ∷ xs)) ≤ length (x ∷ xs)
    go true e h = rw e (omega arith)
    go false e h = rw e (omega arith)

-- and shorter where one passes it
pub filter-shorter : {A : Type 0} (p : A → Bool) (xs : List A) → list_any p xs ≡ true → length (filter (λ x. not (p x)) xs) + 1 ≤ length xs
filter-shorter p [] e = absurd cc
filter-shorter {A = A} p (x ∷ xs) e = go (p x) refl (filter-short (λ y. not (p y)) xs) (filter-shorter p xs) e
  where
    go : (b : Bool) → p x ≡ b → length (filter (λ y. not (p y)) xs) ≤ length xs
        → (list_any p xs ≡ true → length (filter (λ y. not (p y)) xs) + 1 ≤ length xs)
        → list_any p (x ∷ xs) ≡ true → length (filter (λ y. not (p y)) (x ∷ xs)) + 1 ≤ length (x ∷ xs)
    go true q h more e = rw q (omega arith)
    go false q h more e = let r : list_any p xs ≡ true = rw q at e in let k = more r in rw q (omega arith)

-- where one passes a test, those that do aren't none
pub some-pass : {A : Type 0} (p : A → Bool) (xs : List A) → list_any p xs ≡ true → filter p xs ≡ [] → ⊥
some-pass p [] e n = absurd cc
some-pass p (x ∷ xs) e n = go (p x) refl (some-pass p xs) e n
  where
    go : (b : Bool) → p x ≡ b → (list_any p xs ≡ true → filter p xs ≡ [] → ⊥) → list_any p (x ∷ xs) ≡ true → filter p (x ∷ xs) ≡ [] → ⊥
    go true q more e n = let r : x ∷ filter p xs ≡ [] = rw q at n in absurd cc
    go false q more e n = more (rw q at e) (rw q at n)

-- what is found among what a function makes of some members is found among all
pub found-before : {A B : Type 0} (p : A → Bool) (f : A → B) (q : B → Bool) (xs : List A) → list_any q (map f (filter p xs)) ≡ true
    → list_any (λ x. q (f x)) xs ≡ true
found-before p f q [] e = absurd cc
found-before p f q (x ∷ xs) e = go (p x) (q (f x)) refl refl (found-before p f q xs) e
  where
    go : (b c : Bool) → p x ≡ b → q (f x) ≡ c → (list_any q (map f (filter p xs)) ≡ true → list_any (λ y. q (f y)) xs ≡ true)
        → list_any q (map f (filter p (x ∷ xs))) ≡ true → list_any (λ y. q (f y)) (x ∷ xs) ≡ true
    go b true t u more e = rw u refl
    go true false t u more e = rw u (more (rw (t, u) at e))
    go false false t u more e = rw u (more (rw t at e))

-- a fact of each member, where one was replaced
pub each-set : {A : Type 0} (P : ℕ → A → Type 0) (xs : List A) (i : ℕ) (x d : A) → P i x
    → ((v : ℕ) → (v ≡ i → ⊥) → v < length xs → P v (slice_index_or xs v d))
    → (v : ℕ) → v < length xs → P v (slice_index_or (slice_set xs i x) v d)
each-set P xs i x d here others v l =
    ⊎_elim
    (λ e. subst (λ k. P k (slice_index_or (slice_set xs i x) k d)) (sym e) (subst (P i) (sym (get_or-set_same xs i x d (subst (λ k. k < length xs) e l))) here))
    (λ ne. subst (P v) (sym (get_or-set_other xs i v x d ne)) (others v ne l))
    (cases_eq v i)

-- one thing so many times has that thing everywhere
pub replicated : {A : Type 0} (n v : ℕ) (x : A) → slice_index_or (replicate n x) v x ≡ x
replicated zero v x = refl
replicated (suc n) zero x = refl
replicated (suc n) (suc v) x = replicated n v x

-- a test that all numbers in a row pass
pub all-pass : (p : ℕ → Bool) (first n : ℕ) → list_all p (numbers_from first n) ≡ true → (v : ℕ) → first ≤ v → v < first + n → p v ≡ true
all-pass p first zero e v l m = absurd (omega arith)
all-pass p first (suc n) e v l m =
    let b = both-true (p first) (list_all p (numbers_from (first + 1) n)) e in
    ⊎_elim (λ q. subst (λ k. p k ≡ true) (sym q) b.0) (λ ne. all-pass p (first + 1) n b.1 v (omega arith) (omega arith)) (cases_eq v first)
