-- How many slots are free, by how many places have a block.
use Rattle.std.proofs.Common.{◌≡◌, ◌≢◌, ℕ, zero, suc, ◌+◌, ◌<◌, ◌≤◌, List, [], ◌∷◌, length, true, false, Bool, inl, inr, refl, sym, ap, ◌∙◌, arith, Option, Some, None}
use Rattle.std.specs.Prelude.{is_some, is_none}
use Rattle.std.specs.Option.{option_map}
use Rattle.std.proofs.lemmas.Bool.{cases_eq}
use Rattle.block_pool.specs.Memory.{Memory, free_in, last_class, names, one_if}
use Rattle.block_pool.specs.Standing.{Named, lease_at, named_count}
use Rattle.block_seats.specs.Counted.{held_count, empty_count}
use Rattle.block_seats.specs.Leaving.{Leaves}
use Rattle.block_seats.specs.Putting.{Puts}
use Rattle.block_seats.specs.Seated.{Seated, SeatsStand, block_at}

-- the leases behind the first
named-rest : (p : Memory) (class : ℕ) (x : Option ℕ) (xs : List (Option ℕ)) → Named p class (x ∷ xs) → Named p class xs
named-rest p class x xs k = record { named = λ i slot here. k.named (suc i) slot here }

-- where a class names all slots, it names as many as there are
pub named-all : (p : Memory) (class : ℕ) (xs : List (Option ℕ)) → Named p class xs → named_count p class xs ≡ held_count xs
named-all p class [] k = refl
named-all p class (None ∷ xs) k = let rest : named_count p class xs ≡ held_count xs = named-all p class xs (named-rest p class None xs k) in omega (arith, rest)
named-all p class (Some t ∷ xs) k =
    let here : names p class t ≡ true = k.named 0 t refl in
    let rest : named_count p class xs ≡ held_count xs = named-all p class xs (named-rest p class (Some t) xs k) in
    rw (here, rest) refl

-- a slot is free or held
pub free-held : {p p1 : Memory} (s s1 : Seated) → SeatsStand p s → SeatsStand p1 s1 → Leaves p p1 s.slots s1.slots → free_in p1 last_class + held_count s1.slots ≡ free_in p last_class + held_count s.slots
free-held {p} {p1} s s1 stands stands1 leaves =
    let was : named_count p last_class s.slots ≡ held_count s.slots = named-all p last_class s.slots stands.named in
    let now : named_count p1 last_class s1.slots ≡ held_count s1.slots = named-all p1 last_class s1.slots stands1.named in
    omega (arith, was, now, leaves.free last_class)

-- places that all have a block where they had one
held-same : (xs ys : List (Option ℕ)) → length ys ≡ length xs → ((j : ℕ) → is_some (lease_at ys j) ≡ is_some (lease_at xs j)) → held_count ys ≡ held_count xs
held-same [] [] long same = refl
held-same [] (y ∷ ys) long same = absurd (omega (arith, long))
held-same (x ∷ xs) [] long same = absurd (omega (arith, long))
held-same (x ∷ xs) (y ∷ ys) long same =
    let here : is_some y ≡ is_some x = same 0 in
    let rest : held_count ys ≡ held_count xs = held-same xs ys (omega (arith, long)) (λ j. same (suc j)) in
    rw (here, rest) refl

-- but for one
held-one : (xs ys : List (Option ℕ)) (i : ℕ) → i < length xs → length ys ≡ length xs → ((j : ℕ) → j ≢ i → is_some (lease_at ys j) ≡ is_some (lease_at xs j))
    → held_count ys + one_if (is_some (lease_at xs i)) ≡ held_count xs + one_if (is_some (lease_at ys i))
held-one [] ys i within long same = absurd (omega (arith, within))
held-one (x ∷ xs) [] i within long same = absurd (omega (arith, long))
held-one (x ∷ xs) (y ∷ ys) zero within long same =
    let rest : held_count ys ≡ held_count xs = held-same xs ys (omega (arith, long)) (λ j. same (suc j) (λ e. absurd (omega (arith, e)))) in
    omega (arith, rest)
held-one (x ∷ xs) (y ∷ ys) (suc i) within long same =
    let here : is_some y ≡ is_some x = same 0 (λ e. absurd (omega (arith, e))) in
    let first : one_if (is_some y) ≡ one_if (is_some x) = ap one_if here in
    let rest = held-one xs ys i (omega (arith, within)) (omega (arith, long)) (λ j ne. same (suc j) (λ e. ne (omega (arith, e)))) in
    omega (arith, first, rest)

-- a block is where a slot is
pub block-held : (p : Memory) (s : Seated) (place : ℕ) → is_some (block_at p s place) ≡ is_some (lease_at s.slots place)
block-held p s place = by _ (lease_at s.slots place)
  where
    by : (f : ℕ → List ℕ) (o : Option ℕ) → is_some (option_map f o) ≡ is_some o
    by f None = refl
    by f (Some t) = refl

-- places where a change of one block leaves blocks and slots
pub others-held : {p p1 : Memory} {s s1 : Seated} {place : ℕ} {words : Option (List ℕ)} → Puts p p1 s s1 place words → (j : ℕ) → j ≢ place → is_some (lease_at s1.slots j) ≡ is_some (lease_at s.slots j)
others-held {p} {p1} {s} {s1} puts j ne = sym (block-held p1 s1 j) ∙ (ap is_some (puts.others j ne) ∙ block-held p s j)

pub here-held : {p p1 : Memory} {s s1 : Seated} {place : ℕ} {words : Option (List ℕ)} → Puts p p1 s s1 place words → is_some (lease_at s1.slots place) ≡ is_some words
here-held {p} {p1} {s} {s1} {place} puts = sym (block-held p1 s1 place) ∙ ap is_some puts.here

-- what a change of one block does to the count of free slots
pub puts-free : {p p1 : Memory} (s s1 : Seated) (place : ℕ) (words : Option (List ℕ)) → SeatsStand p s → place < length s.slots → Puts p p1 s s1 place words
    → free_in p1 last_class + one_if (is_some words) ≡ free_in p last_class + one_if (is_some (lease_at s.slots place))
puts-free {p} {p1} s s1 place words stands within puts =
    let counts = free-held s s1 stands puts.stands puts.leaves in
    let places = held-one s.slots s1.slots place within puts.places (others-held puts) in
    let here : one_if (is_some (lease_at s1.slots place)) ≡ one_if (is_some words) = ap one_if (here-held puts) in
    omega (arith, counts, places, here)

-- none is the contrary of some
pub none-by-some : (a b : Option ℕ) → is_some a ≡ is_some b → is_none a ≡ is_none b
none-by-some None None same = refl
none-by-some None (Some t) same = absurd cc
none-by-some (Some t) None same = absurd cc
none-by-some (Some t) (Some u) same = refl

-- a run of places that all have a block where they had one
empty-same : (xs ys : List (Option ℕ)) (from n : ℕ) → ((j : ℕ) → from ≤ j → is_some (lease_at ys j) ≡ is_some (lease_at xs j)) → empty_count ys from n ≡ empty_count xs from n
empty-same xs ys from zero same = refl
empty-same xs ys from (suc n) same =
    let here : is_none (lease_at ys from) ≡ is_none (lease_at xs from) = none-by-some (lease_at ys from) (lease_at xs from) (same from (omega arith)) in
    let rest : empty_count ys (from + 1) n ≡ empty_count xs (from + 1) n = empty-same xs ys (from + 1) n (λ j low. same j (omega (arith, low))) in
    rw (here, rest) refl

-- but for one of them
pub empty-one : (xs ys : List (Option ℕ)) (from n i : ℕ) → from ≤ i → i < from + n → ((j : ℕ) → j ≢ i → is_some (lease_at ys j) ≡ is_some (lease_at xs j))
    → empty_count ys from n + one_if (is_none (lease_at xs i)) ≡ empty_count xs from n + one_if (is_none (lease_at ys i))
empty-one xs ys from zero i low high same = absurd (omega (arith, low, high))
empty-one xs ys from (suc n) i low high same = elim (cases_eq from i) as (λ _. empty_count ys from (suc n) + one_if (is_none (lease_at xs i)) ≡ empty_count xs from (suc n) + one_if (is_none (lease_at ys i))) [
  | inl e ↦ (
      let rest : empty_count ys (from + 1) n ≡ empty_count xs (from + 1) n = empty-same xs ys (from + 1) n (λ j above. same j (λ z. absurd (omega (arith, z, e, above)))) in
      let one : one_if (is_none (lease_at xs from)) ≡ one_if (is_none (lease_at xs i)) = ap (λ k. one_if (is_none (lease_at xs k))) e in
      let two : one_if (is_none (lease_at ys from)) ≡ one_if (is_none (lease_at ys i)) = ap (λ k. one_if (is_none (lease_at ys k))) e in
      omega (arith, rest, one, two)
      )
  | inr ne ↦ (
      let here : one_if (is_none (lease_at ys from)) ≡ one_if (is_none (lease_at xs from)) = ap one_if (none-by-some (lease_at ys from) (lease_at xs from) (same from ne)) in
      let rest = empty-one xs ys (from + 1) n i (omega (arith, low, ne)) (omega (arith, high)) same in
      omega (arith, here, rest)
      )
]

-- where one of them has none, one is counted
pub empty-some : (xs : List (Option ℕ)) (from n i : ℕ) → from ≤ i → i < from + n → lease_at xs i ≡ None → 0 < empty_count xs from n
empty-some xs from zero i low high none = absurd (omega (arith, low, high))
empty-some xs from (suc n) i low high none = elim (cases_eq from i) as (λ _. 0 < empty_count xs from (suc n)) [
  | inl e ↦ (
      let one : one_if (is_none (lease_at xs from)) ≡ 1 = ap (λ k. one_if (is_none (lease_at xs k))) e ∙ ap (λ (o : Option ℕ). one_if (is_none o)) none in
      omega (arith, one)
      )
  | inr ne ↦ (
      let rest = empty-some xs (from + 1) n i (omega (arith, low, ne)) (omega (arith, high)) none in
      omega (arith, rest)
      )
]

-- a run has no more places without a block than it has places
pub empty-most : (xs : List (Option ℕ)) (from n : ℕ) → empty_count xs from n ≤ n
empty-most xs from zero = omega arith
empty-most xs from (suc n) =
    let one = at-most-one (is_none (lease_at xs from)) in
    let rest = empty-most xs (from + 1) n in
    omega (arith, one, rest)
  where
    at-most-one : (b : Bool) → one_if b ≤ 1
    at-most-one true = omega arith
    at-most-one false = omega arith

-- a run in two parts
pub empty-split : (xs : List (Option ℕ)) (from n m : ℕ) → empty_count xs from (n + m) ≡ empty_count xs from n + empty_count xs (from + n) m
empty-split xs from zero m =
    let all : 0 + m ≡ m = omega arith in
    let place : from + 0 ≡ from = omega arith in
    let left : empty_count xs from (0 + m) ≡ empty_count xs from m = ap (empty_count xs from) all in
    let right : empty_count xs (from + 0) m ≡ empty_count xs from m = ap (λ k. empty_count xs k m) place in
    omega (arith, left, right)
empty-split xs from (suc n) m =
    let all : suc n + m ≡ suc (n + m) = omega arith in
    let place : from + 1 + n ≡ from + suc n = omega arith in
    let left : empty_count xs from (suc n + m) ≡ empty_count xs from (suc (n + m)) = ap (empty_count xs from) all in
    let rest = empty-split xs (from + 1) n m in
    let right : empty_count xs (from + 1 + n) m ≡ empty_count xs (from + suc n) m = ap (λ k. empty_count xs k m) place in
    omega (arith, left, rest, right)

-- a run behind the first place
empty-behind : (x : Option ℕ) (xs : List (Option ℕ)) (from n : ℕ) → empty_count (x ∷ xs) (suc from) n ≡ empty_count xs from n
empty-behind x xs from zero = refl
empty-behind x xs from (suc n) =
    let next : suc from + 1 ≡ suc (from + 1) = omega arith in
    let moved : empty_count (x ∷ xs) (suc from + 1) n ≡ empty_count (x ∷ xs) (suc (from + 1)) n = ap (λ k. empty_count (x ∷ xs) k n) next in
    let rest = empty-behind x xs (from + 1) n in
    omega (arith, moved, rest)

-- a place has a block or none
pub some-or-none : (o : Option ℕ) → one_if (is_some o) + one_if (is_none o) ≡ 1
some-or-none None = refl
some-or-none (Some t) = refl

-- so all places are as many as those with a block and those without
pub held-empty : (xs : List (Option ℕ)) → held_count xs + empty_count xs 0 (length xs) ≡ length xs
held-empty [] = refl
held-empty (x ∷ xs) =
    let here = some-or-none x in
    let rest = held-empty xs in
    let behind : empty_count (x ∷ xs) 1 (length xs) ≡ empty_count xs 0 (length xs) = empty-behind x xs 0 (length xs) in
    omega (arith, here, rest, behind)
