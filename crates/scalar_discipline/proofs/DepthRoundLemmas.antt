-- Rounds give the depths of procedures; where one changes nothing there is no recursion.
use Rattle.std.proofs.Common.{◌≡◌, ℕ, zero, suc, ◌+◌, ◌-◌, ◌<◌, ◌≤◌, max, List, [], ◌∷◌, map, filter, flat_map, fold, length, replicate, slice_index_or, Bool, true, false, ◌==◌, ◌⊎◌, nat_lt, None, inl, inr, refl, sym, ap, ◌∙◌, subst, eqb-true, arith}
use Rattle.std.specs.Prelude.{nat_le}
use Rattle.std.specs.List.{list_all, list_any, enumerate_from}
use Rattle.std.proofs.lemmas.Bool.{and_parts, and_from, or_cases, leb-true, ltb-true, ltb-false}
use Rattle.std.proofs.lemmas.Bool.Decides.{nat_tests}
use Rattle.std.proofs.lemmas.List.{length-map, get_or_past}
use Rattle.sial_syntax.specs.Boxes.{numbers_from}
use Rattle.sial_syntax.specs.SideRules.{calls_of, depth_of, least, reaches, recursion, recursive_calls}
use Rattle.sial_syntax.specs.Sides.{called_by}
use Rattle.sial_syntax.specs.Tree.{Tree, Procedure}
use Rattle.sial_syntax.specs.Visits.{Visit, body_visits}
use Rattle.sial_syntax.proofs.AmongLemmas.{Among, among_flat, among_flat_from, among_map_from, among_filter_from, any_from}
use Rattle.sial_syntax.proofs.CallLemmas.{no_procedure}
use Rattle.scalar_discipline.specs.declared.call.Call.{Call}
use Rattle.scalar_discipline.specs.Calls.{calls_within}
use Rattle.scalar_discipline.specs.Rounds.{deepest, deeper, depths_after}
use Rattle.scalar_discipline.proofs.CallListLemmas.{called-within}
use Rattle.scalar_discipline.proofs.ListLemmas.{same_map, map_twice, map_numbers, number_at}

-- a depth of some that are at most so much
low-at : (n : ℕ) (depths : List ℕ) (i : ℕ) → 1 ≤ n → list_all (λ d. nat_le d n) depths ≡ true → slice_index_or depths i 1 ≤ n
low-at n [] i some low = some
low-at n (d ∷ ds) zero some low = leb-true d n (and_parts (nat_le d n) (list_all (λ e. nat_le e n) ds) low).0
low-at n (d ∷ ds) (suc i) some low = low-at n ds i some (and_parts (nat_le d n) (list_all (λ e. nat_le e n) ds) low).1

-- the greatest of some that are at most so much
fold-low : (n a : ℕ) (depths : List ℕ) (calls : List Call) → 1 ≤ n → list_all (λ d. nat_le d n) depths ≡ true → a ≤ n → fold max a (map (λ (c : Call). slice_index_or depths c.procedure 1) calls) ≤ n
fold-low n a depths [] some low few = few
fold-low n a depths (c ∷ cs) some low few = fold-low n (max a (slice_index_or depths c.procedure 1)) depths cs some low (omega (arith, few, low-at n depths c.procedure some low))

pub deepest-low : (n : ℕ) (depths : List ℕ) (calls : List Call) → 1 ≤ n → list_all (λ d. nat_le d n) depths ≡ true → deepest depths calls ≤ n
deepest-low n depths calls some low = fold-low n 0 depths calls some low (omega arith)

-- one round makes depths greater by one at most
round-low : (n : ℕ) (depths : List ℕ) (calls : List (List Call)) → 1 ≤ n → list_all (λ d. nat_le d n) depths ≡ true → list_all (λ d. nat_le d (suc n)) (deeper calls depths) ≡ true
round-low n depths [] some low = refl
round-low n depths (own ∷ others) some low =
    let few : deepest depths own ≤ n = deepest-low n depths own some low in
    let test : nat_le (1 + deepest depths own) (suc n) ≡ true = grind (arith, nat_tests, few) in
    and_from (nat_le (1 + deepest depths own) (suc n)) (list_all (λ d. nat_le d (suc n)) (deeper others depths)) test (round-low n depths others some low)

-- none is greater than there were rounds, and one
after-low : (calls : List (List Call)) (n : ℕ) → list_all (λ d. nat_le d (suc n)) (depths_after calls n) ≡ true
after-low calls zero = ones (length calls)
  where
    ones : (k : ℕ) → list_all (λ d. nat_le d 1) (replicate k 1) ≡ true
    ones zero = refl
    ones (suc k) = ones k
after-low calls (suc n) = round-low (suc n) (depths_after calls n) calls (omega arith) (after-low calls n)

-- a greater bound holds too
low-more : (m n : ℕ) (depths : List ℕ) → m ≤ n → list_all (λ d. nat_le d m) depths ≡ true → list_all (λ d. nat_le d n) depths ≡ true
low-more m n [] more low = refl
low-more m n (d ∷ ds) more low =
    let parts = and_parts (nat_le d m) (list_all (λ e. nat_le e m) ds) low in
    let first : d ≤ m = leb-true d m parts.0 in
    let test : nat_le d n ≡ true = grind (arith, nat_tests, first, more) in
    and_from (nat_le d n) (list_all (λ e. nat_le e n) ds) test (low-more m n ds more parts.1)

pub rounds-low : (calls : List (List Call)) (n most : ℕ) (depths : List ℕ) → depths ≡ depths_after calls n → suc n ≤ most → list_all (λ d. nat_le d most) depths ≡ true
rounds-low calls n most depths is few = subst (λ (ds : List ℕ). list_all (λ d. nat_le d most) ds ≡ true) (sym is) (low-more (suc n) most (depths_after calls n) few (after-low calls n))

-- what a round leaves as it is stays so
stays : (calls : List (List Call)) (k j : ℕ) → deeper calls (depths_after calls k) ≡ depths_after calls k → depths_after calls (k + j) ≡ depths_after calls k
stays calls k zero fixed = let none : k + 0 ≡ k = omega arith in ap (depths_after calls) none
stays calls k (suc j) fixed =
    let more : k + suc j ≡ suc (k + j) = omega arith in
    ap (depths_after calls) more ∙ (ap (deeper calls) (stays calls k j fixed) ∙ fixed)

pub settled-depths : (calls : List (List Call)) (turn n : ℕ) (depths : List ℕ) → depths ≡ depths_after calls turn → deeper calls depths ≡ depths → turn ≤ n → depths ≡ depths_after calls n
settled-depths calls turn n depths is fixed few =
    let fixed-after : deeper calls (depths_after calls turn) ≡ depths_after calls turn = subst (λ (ds : List ℕ). deeper calls ds ≡ ds) is fixed in
    let sum : turn + (n - turn) ≡ n = omega (arith, few) in
    is ∙ (sym (stays calls turn (n - turn) fixed-after) ∙ ap (depths_after calls) sum)

-- before the first round each is 1 deep
ones-are : (f : ℕ → ℕ) (first n : ℕ) → ((q : ℕ) → f q ≡ 1) → replicate n 1 ≡ map f (numbers_from first n)
ones-are f first zero one = refl
ones-are f first (suc n) one = ap (λ d. d ∷ replicate n 1) (sym (one first)) ∙ ap (λ ds. f first ∷ ds) (ones-are f (first + 1) n one)

-- the greatest of nothing but 0 is 0
flat : (rs : List ℕ) → fold max 0 (map (λ r. 0) rs) ≡ 0
flat [] = refl
flat (r ∷ rs) = flat rs

-- a procedure that isn't there calls none
pub calls-none : (p : Tree) (q : ℕ) → length p.procedures ≤ q → calls_of p q ≡ []
calls-none p q past = ap (λ (s : Procedure). flat_map (λ (v : Visit). called_by v.form) (body_visits s.body)) (get_or_past p.procedures q no_procedure past)

-- so one that calls some is there
pub calls-there : (p : Tree) (q r : ℕ) → Among r (calls_of p q) → q < length p.procedures
calls-there p q r m = by (nat_lt q (length p.procedures)) refl
  where
    by : (b : Bool) → nat_lt q (length p.procedures) ≡ b → q < length p.procedures
    by true e = ltb-true q (length p.procedures) e
    by false e =
        let past = ltb-false q (length p.procedures) e in
        absurd (subst (λ (rs : List ℕ). Among r rs) (calls-none p q (omega (arith, past))) m)

-- a depth found in the list of all; a procedure that isn't there is 1 deep
pub depth-at : (p : Tree) (m r : ℕ) (depths : List ℕ) → depths ≡ map (depth_of p (suc m)) (numbers_from 0 (length p.procedures)) → slice_index_or depths r 1 ≡ depth_of p (suc m) r
depth-at p m r depths is = by (nat_lt r (length p.procedures)) refl
  where
    by : (b : Bool) → nat_lt r (length p.procedures) ≡ b → slice_index_or depths r 1 ≡ depth_of p (suc m) r
    by true e =
        let same : 0 + r ≡ r = omega arith in
        ap (λ ds. slice_index_or ds r 1) is ∙ (number_at (depth_of p (suc m)) 0 (length p.procedures) r 1 (ltb-true r (length p.procedures) e) ∙ ap (depth_of p (suc m)) same)
    by false e =
        let past = ltb-false r (length p.procedures) e in
        let long : length depths ≡ length p.procedures = ap length is ∙ (length-map (numbers_from 0 (length p.procedures)) (depth_of p (suc m)) ∙ count 0 (length p.procedures)) in
        get_or_past depths r 1 (omega (arith, long, past)) ∙ sym (ap (λ rs. 1 + fold max 0 (map (depth_of p m) rs)) (calls-none p r (omega (arith, past))))
      where
        count : (first n : ℕ) → length (numbers_from first n) ≡ n
        count first zero = refl
        count first (suc n) = ap suc (count (first + 1) n)

-- the depths after so many rounds are those that look at one call more
pub depths-are : (p : Tree) (m : ℕ) → depths_after (map calls_within p.procedures) m ≡ map (depth_of p (suc m)) (numbers_from 0 (length p.procedures))
depths-are p zero =
    ap (λ n. replicate n 1) (length-map p.procedures calls_within)
    ∙ ones-are (depth_of p (suc zero)) 0 (length p.procedures) (λ q. ap (λ n. 1 + n) (flat (calls_of p q)))
depths-are p (suc m) =
    let depths = depths_after (map calls_within p.procedures) m in
    map_twice (λ own. 1 + deepest depths own) calls_within p.procedures
    ∙ map_numbers (λ (q : Procedure). 1 + deepest depths (calls_within q)) (depth_of p (suc (suc m))) p.procedures no_procedure 0 (λ q within. ap (λ n. 1 + n) (one q (depths-are p m)))
  where
    one : (q : ℕ) → depths_after (map calls_within p.procedures) m ≡ map (depth_of p (suc m)) (numbers_from 0 (length p.procedures))
        → deepest (depths_after (map calls_within p.procedures) m) (calls_within (slice_index_or p.procedures q no_procedure)) ≡ fold max 0 (map (depth_of p (suc m)) (calls_of p (0 + q)))
    one q is =
        let start : q ≡ 0 + q = omega arith in
        let depths = depths_after (map calls_within p.procedures) m in
        let own = calls_within (slice_index_or p.procedures q no_procedure) in
        ap (fold max 0)
        (sym (map_twice (λ r. slice_index_or depths r 1) (λ (c : Call). c.procedure) own)
        ∙ (ap (map (λ r. slice_index_or depths r 1)) (called-within p q ∙ ap (calls_of p) start)
        ∙ same_map (λ r. slice_index_or depths r 1) (depth_of p (suc m)) (calls_of p (0 + q)) (λ r among. depth-at p m r depths is)))

-- what the greatest begins with is no greater
fold-above : (a : ℕ) (xs : List ℕ) → a ≤ fold max a xs
fold-above a [] = omega arith
fold-above a (x ∷ xs) = let next : max a x ≤ fold max (max a x) xs = fold-above (max a x) xs in omega (arith, next)

-- no member is greater than the greatest
member-above : (f : ℕ → ℕ) (a r : ℕ) (xs : List ℕ) → Among r xs → f r ≤ fold max a (map f xs)
member-above f a r [] m = absurd m
member-above f a r (x ∷ xs) (inl same) =
    let next : max a (f x) ≤ fold max (max a (f x)) (map f xs) = fold-above (max a (f x)) (map f xs) in
    let here : f r ≡ f x = ap f same in
    omega (arith, next, here)
member-above f a r (x ∷ xs) (inr m) = member-above f (max a (f x)) r xs m

-- where a round leaves depths as they are, a procedure is deeper than those that it calls
falls : (p : Tree) (n q r : ℕ) → ((s : ℕ) → s < length p.procedures → depth_of p (suc n) s ≡ depth_of p n s) → Among r (calls_of p q) → depth_of p n r < depth_of p n q
falls p n q r fixed m =
    let own : depth_of p (suc n) q ≡ depth_of p n q = fixed q (calls-there p q r m) in
    let above : depth_of p n r ≤ fold max 0 (map (depth_of p n) (calls_of p q)) = member-above (depth_of p n) 0 r (calls_of p q) m in
    let whole : depth_of p (suc n) q ≡ 1 + fold max 0 (map (depth_of p n) (calls_of p q)) = refl in
    omega (arith, own, above, whole)

-- so calls reach nothing deeper
reach-down : (p : Tree) (n most from to : ℕ) → ((s : ℕ) → s < length p.procedures → depth_of p (suc n) s ≡ depth_of p n s) → reaches p most from to ≡ true → depth_of p n to ≤ depth_of p n from
reach-down p n zero from to fixed there =
    let here : depth_of p n from ≡ depth_of p n to = ap (depth_of p n) (eqb-true from to there) in
    omega (arith, here)
reach-down p n (suc most) from to fixed there = by (or_cases (from == to) (list_any (λ q. reaches p most q to) (calls_of p from)) there) (λ q on. reach-down p n most q to fixed on)
  where
    by : ((from == to) ≡ true) ⊎ (list_any (λ q. reaches p most q to) (calls_of p from) ≡ true) → ((q : ℕ) → reaches p most q to ≡ true → depth_of p n to ≤ depth_of p n q) → depth_of p n to ≤ depth_of p n from
    by (inl same) further =
        let here : depth_of p n from ≡ depth_of p n to = ap (depth_of p n) (eqb-true from to same) in
        omega (arith, here)
    by (inr some) further =
        let next = any_from (λ q. reaches p most q to) (calls_of p from) some in
        omega (arith, falls p n from next.0 fixed next.1, further next.0 next.2)

-- the procedure with a number
numbered-is : (first : ℕ) (qs : List Procedure) (x : ℕ × Procedure) → Among x (enumerate_from first qs) → (i : ℕ) × (x.0 ≡ first + i) × (slice_index_or qs i no_procedure ≡ x.1)
numbered-is first [] x m = absurd m
numbered-is first (q ∷ qs) x (inl same) = let start : x.0 ≡ first = ap (λ (z : ℕ × Procedure). z.0) same in (zero, omega (arith, start), sym (ap (λ (z : ℕ × Procedure). z.1) same))
numbered-is first (q ∷ qs) x (inr m) = let r = numbered-is (first + 1) qs x m in (suc r.0, omega (arith, r.1), r.2)

-- a list without members is empty
empty-is : (xs : List ℕ) → ((x : ℕ) → Among x xs → ⊥) → xs ≡ []
empty-is [] none = refl
empty-is (x ∷ xs) none = absurd (none x (inl refl))

-- and there is no recursion
pub settled-none : (p : Tree) (n : ℕ) → deeper (map calls_within p.procedures) (depths_after (map calls_within p.procedures) n) ≡ depths_after (map calls_within p.procedures) n → recursion p ≡ None
settled-none p n fixed =
    let d = suc n in
    let same : map (depth_of p (suc d)) (numbers_from 0 (length p.procedures)) ≡ map (depth_of p d) (numbers_from 0 (length p.procedures)) =
    sym (depths-are p (suc n)) ∙ (fixed ∙ depths-are p n) in
    let each : (s : ℕ) → s < length p.procedures → depth_of p (suc d) s ≡ depth_of p d s =
    λ s within.
    let here : 0 + s ≡ s = omega arith in
    subst (λ (t : ℕ). depth_of p (suc d) t ≡ depth_of p d t) here
    (sym (number_at (depth_of p (suc d)) 0 (length p.procedures) s 0 within)
    ∙ (ap (λ ds. slice_index_or ds s 0) same ∙ number_at (depth_of p d) 0 (length p.procedures) s 0 within)) in
    ap least (empty-is (flat_map (recursive_calls p) (enumerate_from 0 p.procedures)) (λ line m.
    let x = among_flat_from (recursive_calls p) line (enumerate_from 0 p.procedures) m in
    let v = among_map_from (λ (v : Visit). v.line) line (filter (λ (v : Visit). list_any (λ called. reaches p (length p.procedures) called x.0.0) (called_by v.form)) (body_visits x.0.1.body)) x.2 in
    let kept = among_filter_from (λ (v : Visit). list_any (λ called. reaches p (length p.procedures) called x.0.0) (called_by v.form)) v.0 (body_visits x.0.1.body) v.1 in
    let r = any_from (λ called. reaches p (length p.procedures) called x.0.0) (called_by v.0.form) kept.1 in
    let at = numbered-is 0 p.procedures x.0 x.1 in
    let number : at.0 ≡ x.0.0 = omega (arith, at.1) in
    let own : slice_index_or p.procedures x.0.0 no_procedure ≡ x.0.1 = ap (λ n. slice_index_or p.procedures n no_procedure) (sym number) ∙ at.2 in
    let calls : Among r.0 (calls_of p x.0.0) =
    subst (λ (q : Procedure). Among r.0 (flat_map (λ (w : Visit). called_by w.form) (body_visits q.body))) (sym own)
    (among_flat (λ (w : Visit). called_by w.form) v.0 r.0 (body_visits x.0.1.body) kept.0 r.1) in
    absurd (omega (arith, falls p d x.0.0 r.0 each calls, reach-down p d (length p.procedures) r.0 x.0.0 each r.2))))
