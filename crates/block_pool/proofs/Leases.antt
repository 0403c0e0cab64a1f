-- What becomes of a list of leases, where one slot of their pool changes.
use Rattle.std.proofs.Common.{◌≡◌, ◌≢◌, ◌⊎◌, ℕ, zero, suc, ◌+◌, ◌<◌, ◌≤◌, List, [], ◌∷◌, ◌++◌, length, map, get_or, set, refl, ap, sym, ◌∙◌, inl, inr, true, ltb, if◌then◌else◌, arith, Option, Some, None, replicate}
use Rattle.std.specs.Option.{option_map}
use Rattle.std.specs.List.{remove}
use Rattle.std.proofs.lemmas.Bool.{cases_eq, cases_Bool}
use borrow.Author.Tests.{ltb-true, ltb-false}
use Rattle.std.proofs.lemmas.List.{get_or-set_same, get_or-set_other, map-set, map_push, get_or_push, get_or-map}
use Rattle.std.proofs.lemmas.List.Edits.{get_or-remove_below, get_or-remove_above}
use Rattle.block_pool.specs.declared.state.State.{State}
use Rattle.block_pool.specs.Memory.{Memory, words_at, state_at, names}
use Rattle.block_pool.specs.Changes.{Changes, Stands}
use Rattle.block_pool.specs.Standing.{Holds, Keeps, Named, NoShared, lease_at, contents}
use Rattle.block_pool.proofs.CutLemmas.{set_present}
use Rattle.block_pool.proofs.OneChange.{stands_other, stands_at, words_other, words_same}

-- two readings of a list of leases that agree at each lease
pub same_reading : {A : Type 0} (f g : ℕ → A) (xs : List (Option ℕ)) → ((i x : ℕ) → lease_at xs i ≡ Some x → f x ≡ g x)
    → map (option_map f) xs ≡ map (option_map g) xs
same_reading f g [] h = refl
same_reading f g (None ∷ xs) h = ap (λ r. None ∷ r) (same_reading f g xs (λ i x e. h (suc i) x e))
same_reading f g (Some y ∷ xs) h =
    let head : f y ≡ g y = h 0 y refl in
    let rest = same_reading f g xs (λ i x e. h (suc i) x e) in
    rw (head, rest) refl

-- the same at each place but one
pub same_but : {A : Type 0} (f g : ℕ → A) (xs : List (Option ℕ)) (k : ℕ) (v : Option A) → ((i x : ℕ) → i ≢ k → lease_at xs i ≡ Some x → f x ≡ g x)
    → set (map (option_map f) xs) k v ≡ set (map (option_map g) xs) k v
same_but f g [] k v h = refl
same_but f g (y ∷ xs) zero v h = ap (λ r. v ∷ r) (same_reading f g xs (λ i x e. h (suc i) x (λ (z : suc i ≡ 0). absurd (omega arith)) e))
same_but f g (None ∷ xs) (suc k) v h = ap (λ r. None ∷ r) (same_but f g xs k v (λ i x ne e. h (suc i) x (λ (z : suc i ≡ suc k). ne (omega arith)) e))
same_but f g (Some y ∷ xs) (suc k) v h =
    let head : f y ≡ g y = h 0 y (λ (z : 0 ≡ suc k). absurd (omega arith)) refl in
    let rest = same_but f g xs k v (λ i x ne e. h (suc i) x (λ (z : suc i ≡ suc k). ne (omega arith)) e) in
    rw (head, rest) refl

-- a place that is written and then taken out
pub remove-set : {X : Type 0} (xs : List X) (i : ℕ) (v : X) → remove (set xs i v) i ≡ remove xs i
remove-set [] i v = refl
remove-set (x ∷ xs) zero v = refl
remove-set (x ∷ xs) (suc i) v = ap (λ r. x ∷ r) (remove-set xs i v)

-- what is read of a list without one element
pub map-remove : {X Y : Type 0} (f : X → Y) (xs : List X) (i : ℕ) → map f (remove xs i) ≡ remove (map f xs) i
map-remove f [] zero = refl
map-remove f [] (suc i) = refl
map-remove f (x ∷ xs) zero = refl
map-remove f (x ∷ xs) (suc i) = ap (λ r. f x ∷ r) (map-remove f xs i)

-- a lease stands at a place of the list
pub lease_within : (xs : List (Option ℕ)) (i x : ℕ) → lease_at xs i ≡ Some x → i < length xs
lease_within [] i x e = absurd (cc)
lease_within (y ∷ xs) zero x e = omega arith
lease_within (y ∷ xs) (suc i) x e = let h = lease_within xs i x e in omega arith

-- a lease that was not the last one
was_before : (xs : List (Option ℕ)) (t j x : ℕ) → j ≢ length xs → lease_at (xs ++ Some t ∷ []) j ≡ Some x → lease_at xs j ≡ Some x
was_before [] t zero x ne e = absurd (ne refl)
was_before [] t (suc j) x ne e = absurd (cc)
was_before (y ∷ xs) t zero x ne e = e
was_before (y ∷ xs) t (suc j) x ne e = was_before xs t j x (λ z. ne (ap suc z)) e

-- each lease of ys is one of xs, under another place
pub holds_along : {p p1 : Memory} {s : State} (xs ys : List (Option ℕ)) (place : ℕ → ℕ) → ((j k : ℕ) → place j ≡ place k → j ≡ k)
    → ((j x : ℕ) → lease_at ys j ≡ Some x → (lease_at xs (place j) ≡ Some x) × (Stands p s x → Stands p1 s x))
    → Holds p s xs → Holds p1 s ys
holds_along xs ys place inj from h = record {
  stands = λ i slot e. let f = from i slot e in f.1 (h.stands (place i) slot f.0);
  apart = λ i j slot a b. inj i j (h.apart (place i) (place j) slot (from i slot a).0 (from j slot b).0);
}

-- the place that a place of a list without one had
abbrev pub skip : ℕ → ℕ → ℕ
skip k j = if ltb j k then j else j + 1

-- a place before the gap, or after it
skip_cases : (k j : ℕ) → ((j < k) × (skip k j ≡ j)) ⊎ ((k ≤ j) × (skip k j ≡ j + 1))
skip_cases k j = elim (cases_Bool (ltb j k)) as (λ _. ((j < k) × (skip k j ≡ j)) ⊎ ((k ≤ j) × (skip k j ≡ j + 1))) [
  | inl low ↦ inl (ltb-true j k low, rw low refl)
  | inr high ↦ inr (ltb-false j k high, rw high refl)
]

-- no two places come from one
skip_apart : (k i j : ℕ) → skip k i ≡ skip k j → i ≡ j
skip_apart k i j e = elim (skip_cases k i) as (λ _. i ≡ j) [
  | inl a ↦ elim (skip_cases k j) as (λ _. i ≡ j) [ inl b ↦ omega (arith, a.0, a.1, b.0, b.1) | inr b ↦ omega (arith, a.0, a.1, b.0, b.1) ]
  | inr a ↦ elim (skip_cases k j) as (λ _. i ≡ j) [ inl b ↦ omega (arith, a.0, a.1, b.0, b.1) | inr b ↦ omega (arith, a.0, a.1, b.0, b.1) ]
]

-- none comes from the gap
skip_past : (k j : ℕ) → skip k j ≢ k
skip_past k j e = elim (skip_cases k j) as (λ _. ⊥) [ inl a ↦ omega (arith, a.0, a.1, e) | inr a ↦ omega (arith, a.0, a.1, e) ]

-- what stands at a place of the shorter list
at_skip : (xs : List (Option ℕ)) (k j : ℕ) → k < length xs → lease_at (remove xs k) j ≡ lease_at xs (skip k j)
at_skip xs k j within = elim (skip_cases k j) as (λ _. lease_at (remove xs k) j ≡ lease_at xs (skip k j)) [
  | inl a ↦ get_or-remove_below xs k None j a.0 within ∙ ap (lease_at xs) (sym a.1)
  | inr a ↦ get_or-remove_above xs k None j a.0 within ∙ ap (lease_at xs) (sym a.1)
]

-- a slot in another state stands at no place
pub not_at_other : {p : Memory} {s s0 : State} {xs : List (Option ℕ)} {t : ℕ} → Holds p s xs → Stands p s0 t → s0 ≢ s → (i x : ℕ) → lease_at xs i ≡ Some x → x ≢ t
not_at_other h st ne i x e = λ z. ne (sym st.state ∙ (ap (state_at _) (sym z) ∙ (h.stands i x e).state))

module _ {p p1 : Memory} {t : ℕ} {s1 : State} {w : List ℕ} (ch : Changes p p1 t s1 w) where
  -- leases of another kind
  pub others_keep : {s s0 : State} (xs : List (Option ℕ)) → Stands p s0 t → s0 ≢ s → Holds p s xs → Keeps p1 s xs (contents p xs)
  others_keep {s} {s0} xs st ne h =
      let apart : (i x : ℕ) → lease_at xs i ≡ Some x → x ≢ t = not_at_other h st ne in
      record {
        holds = holds_along xs xs (λ i. i) (λ j k e. e) (λ j x e. (e, λ q. stands_other ch q (apart j x e))) h;
        words_are = same_reading (words_at p1.words) (words_at p.words) xs (λ i x e. words_other ch x (apart i x e));
      }

  -- the slot of a lease, where it stays in its state
  stays : (x : ℕ) → Stands p s1 x → Stands p1 s1 x
  stays x q = elim (cases_eq x t) [ inl e ↦ (let z : Stands p1 s1 t = stands_at ch (rw e at q) in rw e z) | inr ne ↦ stands_other ch q ne ]

  -- no other place names the slot
  not_at : {s : State} {xs : List (Option ℕ)} {k : ℕ} → Holds p s xs → lease_at xs k ≡ Some t → (i x : ℕ) → i ≢ k → lease_at xs i ≡ Some x → x ≢ t
  not_at {s} {xs} {k} h here i x ne e = λ z. ne (h.apart i k t (e ∙ ap Some z) here)

  -- the changed slot's words, read from the list
  read_here : {s : State} {xs : List (Option ℕ)} (k : ℕ) → Holds p s xs → lease_at xs k ≡ Some t → get_or (contents p1 xs) k None ≡ Some w
  read_here {s} {xs} k h here =
      get_or-map (option_map (words_at p1.words)) xs k None None (lease_within xs k t here)
      ∙ (ap (option_map (words_at p1.words)) here ∙ ap Some (words_same ch (h.stands k t here)))

  -- one lease's words
  pub write_keeps : (xs : List (Option ℕ)) (k : ℕ) → lease_at xs k ≡ Some t → Holds p s1 xs → Keeps p1 s1 xs (set (contents p xs) k (Some w))
  write_keeps xs k here h = record {
    holds = holds_along xs xs (λ i. i) (λ j k e. e) (λ j x e. (e, λ q. stays x q)) h;
    words_are = sym (set_present (contents p1 xs) k None (Some w) (read_here k h here))
        ∙ same_but (words_at p1.words) (words_at p.words) xs k (Some w) (λ i x ne e. words_other ch x (not_at h here i x ne e));
  }

  -- a lease leaves its place
  pub clear_keeps : {s : State} (xs : List (Option ℕ)) (k : ℕ) → lease_at xs k ≡ Some t → Holds p s xs → Keeps p1 s (set xs k None) (set (contents p xs) k None)
  clear_keeps {s} xs k here h = record {
    holds = holds_along xs (set xs k None) (λ i. i) (λ i j e. e) (λ j x e.
        elim (cases_eq j k) as (λ _. (lease_at xs j ≡ Some x) × (Stands p s x → Stands p1 s x)) [
          | inl z ↦ absurd (cc (ap (λ n. get_or (set xs k None) n None) z, get_or-set_same xs k None None (lease_within xs k t here), e))
          | inr ne ↦ (let was : lease_at xs j ≡ Some x = sym (get_or-set_other xs k j None None ne) ∙ e in (was, λ q. stands_other ch q (not_at h here j x ne was)))
        ]) h;
    words_are = map-set (option_map (words_at p1.words)) xs k None
        ∙ same_but (words_at p1.words) (words_at p.words) xs k None (λ i x ne e. words_other ch x (not_at h here i x ne e));
  }

  -- a lease and its place leave the list
  pub remove_keeps : {s : State} (xs : List (Option ℕ)) (k : ℕ) → lease_at xs k ≡ Some t → Holds p s xs → Keeps p1 s (remove xs k) (remove (contents p xs) k)
  remove_keeps {s} xs k here h =
      let within : k < length xs = lease_within xs k t here in
      record {
        holds = holds_along xs (remove xs k) (λ j. skip k j) (skip_apart k) (λ j x e.
            let was : lease_at xs (skip k j) ≡ Some x = sym (at_skip xs k j within) ∙ e in
            (was, λ q. stands_other ch q (not_at h here (skip k j) x (skip_past k j) was))) h;
        words_are = map-remove (option_map (words_at p1.words)) xs k
            ∙ (sym (remove-set (map (option_map (words_at p1.words)) xs) k None)
            ∙ (ap (λ r. remove r k) (same_but (words_at p1.words) (words_at p.words) xs k None (λ i x ne e. words_other ch x (not_at h here i x ne e)))
            ∙ remove-set (contents p xs) k None));
      }

  -- ys is xs with one lease more, at a place of its own
  holds_more : {s0 : State} (xs ys : List (Option ℕ)) (k : ℕ) → Stands p s0 t → s0 ≢ s1 → Holds p s1 xs → lease_at ys k ≡ Some t
      → ((j x : ℕ) → j ≢ k → lease_at ys j ≡ Some x → lease_at xs j ≡ Some x) → Holds p1 s1 ys
  holds_more {s0} xs ys k st diff h here from =
      let apart : (i x : ℕ) → lease_at xs i ≡ Some x → x ≢ t = not_at_other h st diff in
      let is_t : (x j : ℕ) → j ≡ k → lease_at ys j ≡ Some x → x ≡ t = λ x j z e. cc (ap (lease_at ys) z, here, e) in
      record {
        stands = λ j x e. elim (cases_eq j k) as (λ _. Stands p1 s1 x) [
          | inl z ↦ (let same : x ≡ t = is_t x j z e in rw same (stands_at ch st))
          | inr ne ↦ (let was = from j x ne e in stands_other ch (h.stands j x was) (apart j x was))
        ];
        apart = λ i j x a b. elim (cases_eq i k) as (λ _. i ≡ j) [
          | inl zi ↦ elim (cases_eq j k) as (λ _. i ≡ j) [
            | inl zj ↦ zi ∙ sym zj
            | inr nj ↦ absurd (apart j x (from j x nj b) (is_t x i zi a))
          ]
          | inr ni ↦ elim (cases_eq j k) as (λ _. i ≡ j) [
            | inl zj ↦ absurd (apart i x (from i x ni a) (is_t x j zj b))
            | inr nj ↦ h.apart i j x (from i x ni a) (from j x nj b)
          ]
        ];
      }

  -- a slot of another state comes to an empty place
  pub place_keeps : {s0 : State} (xs : List (Option ℕ)) (k : ℕ) → k < length xs → Stands p s0 t → s0 ≢ s1 → Holds p s1 xs → Keeps p1 s1 (set xs k (Some t)) (set (contents p xs) k (Some w))
  place_keeps {s0} xs k within st diff h =
      let apart : (i x : ℕ) → lease_at xs i ≡ Some x → x ≢ t = not_at_other h st diff in
      record {
        holds = holds_more xs (set xs k (Some t)) k st diff h (get_or-set_same xs k (Some t) None within) (λ j x ne e. sym (get_or-set_other xs k j (Some t) None ne) ∙ e);
        words_are = map-set (option_map (words_at p1.words)) xs k (Some t)
            ∙ (ap (λ r. set (map (option_map (words_at p1.words)) xs) k (Some r)) (words_same ch st)
            ∙ ap (λ r. set r k (Some w)) (same_reading (words_at p1.words) (words_at p.words) xs (λ i x e. words_other ch x (apart i x e))));
      }

  -- a slot of another state comes to the end
  pub push_keeps : {s0 : State} (xs : List (Option ℕ)) → Stands p s0 t → s0 ≢ s1 → Holds p s1 xs → Keeps p1 s1 (xs ++ Some t ∷ []) (contents p xs ++ Some w ∷ [])
  push_keeps {s0} xs st diff h =
      let apart : (i x : ℕ) → lease_at xs i ≡ Some x → x ≢ t = not_at_other h st diff in
      record {
        holds = holds_more xs (xs ++ Some t ∷ []) (length xs) st diff h (get_or_push xs (Some t) None (length xs) refl) (was_before xs t);
        words_are = map_push (option_map (words_at p1.words)) xs (Some t)
            ∙ (ap (λ r. map (option_map (words_at p1.words)) xs ++ Some r ∷ []) (words_same ch st)
            ∙ ap (λ r. r ++ Some w ∷ []) (same_reading (words_at p1.words) (words_at p.words) xs (λ i x e. words_other ch x (apart i x e))));
      }

-- leases keep the words that they have
pub keep_refl : {p : Memory} {s : State} (xs : List (Option ℕ)) → Holds p s xs → Keeps p s xs (contents p xs)
keep_refl xs h = record { holds = h; words_are = refl }

-- the same lemmas, from leases with known words
module _ {p p1 : Memory} {t : ℕ} {s1 : State} {w : List ℕ} (ch : Changes p p1 t s1 w) {xs : List (Option ℕ)} {ws : List (Option (List ℕ))} where
  -- leases of another kind: nothing has changed
  pub others : {s s0 : State} → Stands p s0 t → s0 ≢ s → Keeps p s xs ws → Keeps p1 s xs ws
  others {s} {s0} st ne k = let r = others_keep ch xs st ne k.holds in record { holds = r.holds; words_are = r.words_are ∙ k.words_are }

  -- one lease's slot was written
  pub written : (i : ℕ) → lease_at xs i ≡ Some t → Keeps p s1 xs ws → Keeps p1 s1 xs (set ws i (Some w))
  written i here k = let r = write_keeps ch xs i here k.holds in record { holds = r.holds; words_are = r.words_are ∙ ap (λ q. set q i (Some w)) k.words_are }

  -- a lease left its place
  pub cleared : {s : State} (i : ℕ) → lease_at xs i ≡ Some t → Keeps p s xs ws → Keeps p1 s (set xs i None) (set ws i None)
  cleared {s} i here k = let r = clear_keeps ch xs i here k.holds in record { holds = r.holds; words_are = r.words_are ∙ ap (λ q. set q i None) k.words_are }

  -- a lease and its place left the list
  pub removed : {s : State} (i : ℕ) → lease_at xs i ≡ Some t → Keeps p s xs ws → Keeps p1 s (remove xs i) (remove ws i)
  removed {s} i here k = let r = remove_keeps ch xs i here k.holds in record { holds = r.holds; words_are = r.words_are ∙ ap (λ q. remove q i) k.words_are }

  -- a slot came to an empty place
  pub placed : {s0 : State} (i : ℕ) → i < length xs → Stands p s0 t → s0 ≢ s1 → Keeps p s1 xs ws → Keeps p1 s1 (set xs i (Some t)) (set ws i (Some w))
  placed {s0} i within st ne k = let r = place_keeps ch xs i within st ne k.holds in record { holds = r.holds; words_are = r.words_are ∙ ap (λ q. set q i (Some w)) k.words_are }

  -- a slot came to the end
  pub pushed : {s0 : State} → Stands p s0 t → s0 ≢ s1 → Keeps p s1 xs ws → Keeps p1 s1 (xs ++ Some t ∷ []) (ws ++ Some w ∷ [])
  pushed {s0} st ne k = let r = push_keeps ch xs st ne k.holds in record { holds = r.holds; words_are = r.words_are ∙ ap (λ q. q ++ Some w ∷ []) k.words_are }

-- the leases that are left are named
pub named_remove : {p : Memory} {class : ℕ} (xs : List (Option ℕ)) (k : ℕ) → k < length xs → Named p class xs → Named p class (remove xs k)
named_remove xs k within n = record { named = λ j x e. n.named (skip k j) x (sym (at_skip xs k j within) ∙ e) }

-- one named lease more
pub named_push : {p : Memory} {class : ℕ} (xs : List (Option ℕ)) (t : ℕ) → names p class t ≡ true → Named p class xs → Named p class (xs ++ Some t ∷ [])
named_push {p} {class} xs t it n = record {
  named = λ j x e. elim (cases_eq j (length xs)) as (λ _. names p class x ≡ true) [
    | inl z ↦ (let same : x ≡ t = cc (ap (lease_at (xs ++ Some t ∷ [])) z, get_or_push xs (Some t) None (length xs) refl, e) in rw same it)
    | inr ne ↦ n.named j x (was_before xs t j x ne e)
  ];
}

-- a named lease at a place
pub named_set : {p : Memory} {class : ℕ} (xs : List (Option ℕ)) (k t : ℕ) → k < length xs → names p class t ≡ true → Named p class xs → Named p class (set xs k (Some t))
named_set {p} {class} xs k t within it n = record {
  named = λ j x e. elim (cases_eq j k) as (λ _. names p class x ≡ true) [
    | inl z ↦ (let same : x ≡ t = cc (ap (lease_at (set xs k (Some t))) z, get_or-set_same xs k (Some t) None within, e) in rw same it)
    | inr ne ↦ n.named j x (sym (get_or-set_other xs k j (Some t) None ne) ∙ e)
  ];
}

-- no lease at a place
pub named_cleared : {p : Memory} {class : ℕ} (xs : List (Option ℕ)) (k : ℕ) → k < length xs → Named p class xs → Named p class (set xs k None)
named_cleared {p} {class} xs k within n = record {
  named = λ j x e. elim (cases_eq j k) as (λ _. names p class x ≡ true) [
    | inl z ↦ absurd (cc (ap (lease_at (set xs k None)) z, get_or-set_same xs k None None within, e))
    | inr ne ↦ n.named j x (sym (get_or-set_other xs k j None None ne) ∙ e)
  ];
}

-- classes name what they named
pub named_still : {p p1 : Memory} {t : ℕ} {s1 : State} {w : List ℕ} {class : ℕ} {xs : List (Option ℕ)} → Changes p p1 t s1 w → Named p class xs → Named p1 class xs
named_still ch n = record { named = λ i slot e. rw (ch.classes, ch.groups) (n.named i slot e) }

-- the words of a lease
pub read_words : (p : Memory) (xs : List (Option ℕ)) (i t : ℕ) → lease_at xs i ≡ Some t → get_or (contents p xs) i None ≡ Some (words_at p.words t)
read_words p xs i t here = get_or-map (option_map (words_at p.words)) xs i None None (lease_within xs i t here) ∙ ap (option_map (words_at p.words)) here

-- no lease in empty places
none_there : (n i x : ℕ) → lease_at (replicate n None) i ≡ Some x → ⊥
none_there zero i x e = absurd (cc)
none_there (suc n) zero x e = absurd (cc)
none_there (suc n) (suc i) x e = none_there n i x e

-- empty places hold nothing
pub holds_none : (p : Memory) (s : State) (n : ℕ) → Holds p s (replicate n None)
holds_none p s n = record {
  stands = λ i x e. absurd (none_there n i x e);
  apart = λ i j x a b. absurd (none_there n i x a);
}

-- empty places share nothing
pub none_shared : (n : ℕ) (zs : List (Option ℕ)) → NoShared (replicate n None) zs
none_shared n zs = record { differ = λ i j x a b. none_there n i x a }

-- sharing nothing goes both ways
pub no_shared_swap : {xs zs : List (Option ℕ)} → NoShared xs zs → NoShared zs xs
no_shared_swap n = record { differ = λ i j x a b. n.differ j i x b a }
