-- Segments that stand one behind the other.
use Rattle.std.proofs.Common.{◌≡◌, ℕ, zero, suc, ◌+◌, ◌-◌, ◌^◌, ◌<◌, ◌≤◌, List, [], ◌∷◌, ◌++◌, take, sum, length, slice_index_or, true, ◌==◌, ◌&&◌, IsTrue, refl, sym, ap, ◌∙◌, subst, arith}
use Rattle.std.specs.Prelude.{nat_le, nat_lt}
use Rattle.std.specs.List.{list_all}
use Rattle.std.proofs.lemmas.Bool.{eqb-true, and_parts, and_from}
use Rattle.std.proofs.lemmas.Bool.Decides.{nat_tests}
use Rattle.std.proofs.lemmas.List.{map-append, take_more}
use Rattle.std.proofs.lemmas.List.Sums.{sum_by-cons, sum_by_push}
use Rattle.sial_syntax.specs.Spaces as sp
use Rattle.sial_syntax.specs.Spaces.{among, length_among}
use Rattle.index_spaces.specs.declared.extent.Extent.{Extent}
use Rattle.index_spaces.specs.declared.span.Span.{Span}
use Rattle.index_spaces.specs.Placed.{extent_of, lengths_of, follow_from, are_near, is_short, are_short}

-- where a segment begins: behind those before it
follow-at : (start : ℕ) (es : List Extent) (k : ℕ) (e : Extent) → follow_from start es ≡ true → k < length es → e ≡ slice_index_or es k e → e.start ≡ start + sum (take k (lengths_of es))
follow-at start [] k e follow within at = absurd (omega arith)
follow-at start (x ∷ xs) zero e follow within at =
    let parts = and_parts (x.start == start) (follow_from (start + x.len) xs) follow in
    let here : x.start ≡ start = eqb-true x.start start parts.0 in
    let same : e.start ≡ x.start = ap (λ (y : Extent). y.start) at in
    let none : sum (take zero (lengths_of (x ∷ xs))) ≡ 0 = refl in
    omega arith
follow-at start (x ∷ xs) (suc k) e follow within at =
    let parts = and_parts (x.start == start) (follow_from (start + x.len) xs) follow in
    let there : e.start ≡ (start + x.len) + sum (take k (lengths_of xs)) = follow-at (start + x.len) xs k e parts.1 (omega arith) at in
    let more : sum (take (suc k) (lengths_of (x ∷ xs))) ≡ x.len + sum (take k (lengths_of xs)) = sum_by-cons (λ (n : ℕ). n) x.len (take k (lengths_of xs)) in
    omega arith

-- how long it is
length-at : (es : List Extent) (k : ℕ) (e : Extent) → k < length es → e ≡ slice_index_or es k e → slice_index_or (lengths_of es) k 0 ≡ e.len
length-at [] k e within at = absurd (omega arith)
length-at (x ∷ xs) zero e within at = sym (ap (λ (y : Extent). y.len) at)
length-at (x ∷ xs) (suc k) e within at = length-at xs k e (omega arith) at

-- so it is among them by its number
pub is_length : (es : List Extent) (number : ℕ) (e : Extent) → 0 < number → number - 1 < length es → e ≡ slice_index_or es (number - 1) e → e.len ≡ length_among (lengths_of es) number
is_length es number e some within at = by (number - 1) (omega arith) within at
  where
    by : (k : ℕ) → number ≡ suc k → k < length es → e ≡ slice_index_or es k e → e.len ≡ length_among (lengths_of es) number
    by k is within at = sym (length-at es k e within at) ∙ ap (length_among (lengths_of es)) (sym is)

-- a segment among others
pub is_segment : (es : List Extent) (number k : ℕ) (e : Extent) → IsTrue (follow_from 1 es) → number ≡ suc k → k < length es → e ≡ slice_index_or es k e → extent_of e ≡ among (lengths_of es) number
is_segment es number k e follow is within at =
    let before : k ≡ suc k - 1 = omega arith in
    let starts : e.start ≡ 1 + sum (take (suc k - 1) (lengths_of es)) = follow-at 1 es k e follow within at ∙ ap (λ (j : ℕ). 1 + sum (take j (lengths_of es))) before in
    let lens : e.len ≡ slice_index_or (lengths_of es) k 0 = sym (length-at es k e within at) in
    let one : ◌≡◌ {A = sp.Extent} (record { start = e.start; len = e.len }) (record { start = 1 + sum (take (suc k - 1) (lengths_of es)); len = e.len }) =
    ap (λ (s : ℕ). record { start = s; len = e.len }) starts in
    let two : ◌≡◌ {A = sp.Extent} (record { start = 1 + sum (take (suc k - 1) (lengths_of es)); len = e.len }) (among (lengths_of es) (suc k)) =
    ap (λ (l : ℕ). record { start = 1 + sum (take (suc k - 1) (lengths_of es)); len = l }) lens in
    one ∙ (two ∙ sym (ap (among (lengths_of es)) is))

-- what a test that a segment begins not too far out says
near-parts : (x : Extent) → (nat_lt x.start (2 ^ 31) && nat_le x.len 1024) ≡ true → (x.start < 2 ^ 31) × (x.len ≤ 1024)
near-parts x near =
    let parts = and_parts (nat_lt x.start (2 ^ 31)) (nat_le x.len 1024) near in
    let first : nat_lt x.start (2 ^ 31) ≡ true = parts.0 in
    let second : nat_le x.len 1024 ≡ true = parts.1 in
    (grind (arith, nat_tests, first), grind (arith, nat_tests, second))

-- a segment of some that begin not too far out
pub is_near : (es : List Extent) (k : ℕ) (e : Extent) → IsTrue (are_near es) → k < length es → e ≡ slice_index_or es k e → (e.start < 2 ^ 31) × (e.len ≤ 1024)
is_near [] k e near within at = absurd (omega arith)
is_near (x ∷ xs) zero e near within at =
    let parts = and_parts (nat_lt x.start (2 ^ 31) && nat_le x.len 1024) (are_near xs) near in
    subst (λ (y : Extent). (y.start < 2 ^ 31) × (y.len ≤ 1024)) (sym at) (near-parts x parts.0)
is_near (x ∷ xs) (suc k) e near within at =
    let parts = and_parts (nat_lt x.start (2 ^ 31) && nat_le x.len 1024) (are_near xs) near in
    is_near xs k e parts.1 (omega arith) at

-- one more segment behind the others
pub follow_push : (start : ℕ) (es : List Extent) (e : Extent) → IsTrue (follow_from start es) → e.start ≡ start + sum (lengths_of es) → IsTrue (follow_from start (es ++ e ∷ []))
follow_push start [] e follow at =
    let none : sum (lengths_of []) ≡ 0 = refl in
    let same : e.start ≡ start = omega arith in
    let test : (e.start == start) ≡ true = grind (arith, nat_tests) in
    and_from (e.start == start) true test refl
follow_push start (x ∷ xs) e follow at =
    let parts = and_parts (x.start == start) (follow_from (start + x.len) xs) follow in
    let more : sum (lengths_of (x ∷ xs)) ≡ x.len + sum (lengths_of xs) = sum_by-cons (λ (n : ℕ). n) x.len (lengths_of xs) in
    and_from (x.start == start) (follow_from (start + x.len) (xs ++ e ∷ [])) parts.0 (follow_push (start + x.len) xs e parts.1 (omega arith))

-- one more that begins not too far out
pub near_push : (es : List Extent) (e : Extent) → IsTrue (are_near es) → e.start < 2 ^ 31 → e.len ≤ 1024 → IsTrue (are_near (es ++ e ∷ []))
near_push [] e near start len = and_from (nat_lt e.start (2 ^ 31) && nat_le e.len 1024) true (and_from (nat_lt e.start (2 ^ 31)) (nat_le e.len 1024) (grind (arith, nat_tests)) (grind (arith, nat_tests))) refl
near_push (x ∷ xs) e near start len =
    let parts = and_parts (nat_lt x.start (2 ^ 31) && nat_le x.len 1024) (are_near xs) near in
    and_from (nat_lt x.start (2 ^ 31) && nat_le x.len 1024) (are_near (xs ++ e ∷ [])) parts.0 (near_push xs e parts.1 start len)

-- a length of some that are short
pub is_short_at : (lengths : List ℕ) (k d : ℕ) → IsTrue (list_all (λ n. nat_le n 1024) lengths) → k < length lengths → slice_index_or lengths k d ≤ 1024
is_short_at [] k d short within = absurd (omega arith)
is_short_at (x ∷ xs) zero d short within =
    let parts = and_parts (nat_le x 1024) (list_all (λ n. nat_le n 1024) xs) short in
    let first : nat_le x 1024 ≡ true = parts.0 in
    grind (arith, nat_tests, first)
is_short_at (x ∷ xs) (suc k) d short within =
    let parts = and_parts (nat_le x 1024) (list_all (λ n. nat_le n 1024) xs) short in
    is_short_at xs k d parts.1 (omega arith)

-- the lengths of one more segment and the others
pub lengths_push : (lengths : List ℕ) (i : ℕ) (es : List Extent) (e : Extent) → lengths_of es ≡ take i lengths → i < length lengths → e.len ≡ slice_index_or lengths i 0 → lengths_of (es ++ e ∷ []) ≡ take (i + 1) lengths
lengths_push lengths i es e so within is =
    map-append (λ (x : Extent). x.len) es (e ∷ []) ∙ (ap (λ (front : List ℕ). front ++ e.len ∷ []) so ∙ (ap (λ (n : ℕ). take i lengths ++ n ∷ []) is ∙ sym (take_more lengths i 0 within)))

-- and how long they are together
pub sum_push : (es : List Extent) (e : Extent) → sum (lengths_of (es ++ e ∷ [])) ≡ sum (lengths_of es) + e.len
sum_push es e = ap sum (map-append (λ (x : Extent). x.len) es (e ∷ [])) ∙ sum_by_push (λ (n : ℕ). n) (lengths_of es) e.len

-- the span at a place of some that are short
pub short_at : (spans : List Span) (k : ℕ) (span : Span) → IsTrue (are_short spans) → k < length spans → span ≡ slice_index_or spans k span → IsTrue (is_short span)
short_at [] k span short within at = absurd (omega arith)
short_at (x ∷ xs) zero span short within at =
    let parts = and_parts (is_short x) (are_short xs) short in
    subst (λ (y : Span). IsTrue (is_short y)) (sym at) parts.0
short_at (x ∷ xs) (suc k) span short within at =
    let parts = and_parts (is_short x) (are_short xs) short in
    short_at xs k span parts.1 (omega arith) at
