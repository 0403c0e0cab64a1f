-- Rounds say which procedures reach another, and so which call leads back first.
use Rattle.std.proofs.Common.{◌≡◌, ℕ, zero, suc, ◌+◌, ◌-◌, ◌<◌, ◌≤◌, List, [], ◌∷◌, ◌++◌, map, filter, flat_map, length, slice_index_or, Bool, true, false, nat_lt, cond, ◌==◌, ◌||◌, ◌⊎◌, inl, inr, Some, refl, sym, ap, ◌∙◌, subst, arith}
use Rattle.std.specs.List.{list_any, enumerate_from}
use Rattle.std.proofs.lemmas.Bool.{ltb-true, ltb-false}
use Rattle.std.proofs.lemmas.Bool.Decides.{nat_tests}
use Rattle.std.proofs.lemmas.List.{length-map, get_or_past}
use Rattle.sial_syntax.specs.Boxes.{numbers_from}
use Rattle.sial_syntax.specs.SideRules.{calls_of, reaches, recursive_calls, recursion, least}
use Rattle.sial_syntax.specs.Sides.{called_by}
use Rattle.sial_syntax.specs.Tree.{Tree, Procedure, Plain}
use Rattle.sial_syntax.specs.Tree as tree
use Rattle.sial_syntax.specs.Visits.{Visit, body_visits}
use Rattle.sial_syntax.proofs.CallLemmas.{no_procedure}
use Rattle.scalar_discipline.specs.declared.call.Call.{Call}
use Rattle.scalar_discipline.specs.Calls.{calls_within}
use Rattle.scalar_discipline.specs.Rounds.{leads_on, reach_next, reach_after, lines_back, lesser, first_back}
use Rattle.scalar_discipline.proofs.CallListLemmas.{calls_at, calls-are, called-within, calls-at-place}
use Rattle.scalar_discipline.proofs.DepthRoundLemmas.{calls-none}
use Rattle.scalar_discipline.proofs.LineLemmas.{lesser_three}
use Rattle.scalar_discipline.proofs.ListLemmas.{same_any, same_filter, any_map, map_enumerated, number_at}

-- what reaches, found in the list of all; a procedure that isn't there reaches none that is
reach-at : (p : Tree) (to m r : ℕ) (reach : List Bool) → to < length p.procedures → reach ≡ map (λ q. reaches p m q to) (numbers_from 0 (length p.procedures)) → slice_index_or reach r false ≡ reaches p m r to
reach-at p to m r reach there is = by (nat_lt r (length p.procedures)) refl
  where
    apart : length p.procedures ≤ r → (r == to) ≡ false
    apart past = grind (arith, nat_tests, there, past)

    nothing : (k : ℕ) → length p.procedures ≤ r → reaches p k r to ≡ false
    nothing zero past = apart past
    nothing (suc k) past = ap (λ b. b || list_any (λ q. reaches p k q to) (calls_of p r)) (apart past) ∙ ap (list_any (λ q. reaches p k q to)) (calls-none p r past)

    count : (first n : ℕ) → length (numbers_from first n) ≡ n
    count first zero = refl
    count first (suc n) = ap suc (count (first + 1) n)

    by : (b : Bool) → nat_lt r (length p.procedures) ≡ b → slice_index_or reach r false ≡ reaches p m r to
    by true e =
        let same : 0 + r ≡ r = omega arith in
        ap (λ rs. slice_index_or rs r false) is
        ∙ (number_at (λ q. reaches p m q to) 0 (length p.procedures) r false (ltb-true r (length p.procedures) e) ∙ ap (λ q. reaches p m q to) same)
    by false e =
        let past = ltb-false r (length p.procedures) e in
        let beyond : length p.procedures ≤ r = omega (arith, past) in
        let long : length reach ≡ length p.procedures = ap length is ∙ (length-map (numbers_from 0 (length p.procedures)) (λ q. reaches p m q to) ∙ count 0 (length p.procedures)) in
        get_or_past reach r false (omega (arith, long, beyond)) ∙ sym (nothing m beyond)

-- the procedures that reach after so many rounds are those that reach by so many calls
pub reach-are : (p : Tree) (to m : ℕ) → to < length p.procedures → reach_after (map calls_within p.procedures) to m ≡ map (λ q. reaches p m q to) (numbers_from 0 (length p.procedures))
reach-are p to zero there =
    map_enumerated (λ (x : ℕ × List Call). x.0 == to) (λ q. q == to) (map calls_within p.procedures) [] 0 (λ i within. refl)
    ∙ ap (λ n. map (λ q. q == to) (numbers_from 0 n)) (length-map p.procedures calls_within)
reach-are p to (suc m) there =
    let calls = map calls_within p.procedures in
    let reach = reach_after calls to m in
    map_enumerated (λ (x : ℕ × List Call). (x.0 == to) || leads_on reach x.1) (λ q. reaches p (suc m) q to) calls [] 0 (λ q within. ap (λ b. ((0 + q) == to) || b) (one q (reach-are p to m there)))
    ∙ ap (λ n. map (λ q. reaches p (suc m) q to) (numbers_from 0 n)) (length-map p.procedures calls_within)
  where
    one : (q : ℕ) → reach_after (map calls_within p.procedures) to m ≡ map (λ r. reaches p m r to) (numbers_from 0 (length p.procedures))
        → leads_on (reach_after (map calls_within p.procedures) to m) (slice_index_or (map calls_within p.procedures) q []) ≡ list_any (λ r. reaches p m r to) (calls_of p (0 + q))
    one q is =
        let start : q ≡ 0 + q = omega arith in
        let reach = reach_after (map calls_within p.procedures) to m in
        ap (leads_on reach) (calls-at-place p q)
        ∙ (sym (any_map (λ r. slice_index_or reach r false) (λ (c : Call). c.procedure) (calls_within (slice_index_or p.procedures q no_procedure)))
        ∙ (ap (list_any (λ r. slice_index_or reach r false)) (called-within p q ∙ ap (calls_of p) start)
        ∙ same_any (λ r. slice_index_or reach r false) (λ r. reaches p m r to) (calls_of p (0 + q)) (λ r among. reach-at p to m r reach there is)))

-- a statement calls one procedure, or none
pub one-called : (form : Plain) → (called_by form ≡ []) ⊎ ((q : ℕ) × (called_by form ≡ q ∷ []))
one-called (tree.Call q) = inr (q, refl)
one-called _ = inl refl

-- the lines of the statements whose call passes a test
passing-lines : (test : ℕ → Bool) (vs : List Visit)
    → map (λ (c : Call). c.line) (filter (λ (c : Call). test c.procedure) (flat_map calls_at vs))
    ≡ map (λ (v : Visit). v.line) (filter (λ (v : Visit). list_any test (called_by v.form)) vs)
passing-lines test [] = refl
passing-lines test (v ∷ vs) = by (called_by v.form) (one-called v.form) (passing-lines test vs)
  where
    passed : (b : Bool) (cs : List Call) (ws : List Visit) (line q : ℕ) → map (λ (c : Call). c.line) cs ≡ map (λ (w : Visit). w.line) ws
        → map (λ (c : Call). c.line) (cond b (record { line = v.line; procedure = q; within = v.within } ∷ cs) cs) ≡ map (λ (w : Visit). w.line) (cond (b || false) (v ∷ ws) ws)
    passed true cs ws line q e = ap (λ ls. v.line ∷ ls) e
    passed false cs ws line q e = e

    by : (qs : List ℕ) → (qs ≡ []) ⊎ ((q : ℕ) × (qs ≡ q ∷ []))
        → map (λ (c : Call). c.line) (filter (λ (c : Call). test c.procedure) (flat_map calls_at vs)) ≡ map (λ (w : Visit). w.line) (filter (λ (w : Visit). list_any test (called_by w.form)) vs)
        → map (λ (c : Call). c.line) (filter (λ (c : Call). test c.procedure) (map (λ q. record { line = v.line; procedure = q; within = v.within }) qs ++ flat_map calls_at vs))
        ≡ map (λ (w : Visit). w.line) (cond (list_any test qs) (v ∷ filter (λ (w : Visit). list_any test (called_by w.form)) vs) (filter (λ (w : Visit). list_any test (called_by w.form)) vs))
    by qs (inl none) e =
        subst
        (λ (rs : List ℕ). map (λ (c : Call). c.line) (filter (λ (c : Call). test c.procedure) (map (λ q. record { line = v.line; procedure = q; within = v.within }) rs ++ flat_map calls_at vs))
        ≡ map (λ (w : Visit). w.line) (cond (list_any test rs) (v ∷ filter (λ (w : Visit). list_any test (called_by w.form)) vs) (filter (λ (w : Visit). list_any test (called_by w.form)) vs)))
        (sym none) e
    by qs (inr one) e =
        subst
        (λ (rs : List ℕ). map (λ (c : Call). c.line) (filter (λ (c : Call). test c.procedure) (map (λ q. record { line = v.line; procedure = q; within = v.within }) rs ++ flat_map calls_at vs))
        ≡ map (λ (w : Visit). w.line) (cond (list_any test rs) (v ∷ filter (λ (w : Visit). list_any test (called_by w.form)) vs) (filter (λ (w : Visit). list_any test (called_by w.form)) vs)))
        (sym one.1)
        (passed (test one.0) (filter (λ (c : Call). test c.procedure) (flat_map calls_at vs)) (filter (λ (w : Visit). list_any test (called_by w.form)) vs) v.line one.0 e)

-- the lines of a procedure's calls that lead back to it
pub lines-are : (p : Tree) (q : ℕ) (own : Procedure) → q < length p.procedures → slice_index_or p.procedures q no_procedure ≡ own
    → lines_back (reach_after (map calls_within p.procedures) q (length (map calls_within p.procedures))) (calls_within own) ≡ recursive_calls p (q, own)
lines-are p q own there is =
    let calls = map calls_within p.procedures in
    let n = length p.procedures in
    let reach = reach_after calls q n in
    let long : length calls ≡ n = length-map p.procedures calls_within in
    ap (λ k. lines_back (reach_after calls q k) (calls_within own)) long
    ∙ (ap (map (λ (c : Call). c.line))
    (same_filter (λ (c : Call). slice_index_or reach c.procedure false) (λ (c : Call). reaches p n c.procedure q) (calls_within own) (λ c among.
    reach-at p q n c.procedure reach there (reach-are p q n there)))
    ∙ (ap (λ cs. map (λ (c : Call). c.line) (filter (λ (c : Call). reaches p n c.procedure q) cs)) (calls-are own)
    ∙ passing-lines (λ r. reaches p n r q) (body_visits own.body)))

-- the least line of two lists
pub least-append : (xs ys : List ℕ) → least (xs ++ ys) ≡ lesser (least xs) (least ys)
least-append [] ys = refl
least-append (x ∷ xs) ys = ap (lesser (Some x)) (least-append xs ys) ∙ sym (lesser_three (Some x) (least xs) (least ys))

-- the first call that leads back
back-are : (p : Tree) (first : ℕ) (qs : List Procedure) → first + length qs ≡ length p.procedures → ((i : ℕ) → i < length qs → slice_index_or p.procedures (first + i) no_procedure ≡ slice_index_or qs i no_procedure)
    → first_back (map calls_within p.procedures) (enumerate_from first (map calls_within qs)) ≡ least (flat_map (recursive_calls p) (enumerate_from first qs))
back-are p first [] long at = refl
back-are p first (q ∷ qs) long at =
    let calls = map calls_within p.procedures in
    let start : first + 0 ≡ first = omega arith in
    let here : slice_index_or p.procedures first no_procedure ≡ q = ap (λ n. slice_index_or p.procedures n no_procedure) (sym start) ∙ at 0 (omega arith) in
    ap (λ ls. lesser (least ls) (first_back calls (enumerate_from (first + 1) (map calls_within qs)))) (lines-are p first q (omega (arith, long)) here)
    ∙ (ap (lesser (least (recursive_calls p (first, q))))
    (back-are p (first + 1) qs (omega (arith, long)) (λ i within.
    let next : (first + 1) + i ≡ first + suc i = omega arith in
    ap (λ n. slice_index_or p.procedures n no_procedure) next ∙ at (suc i) (omega (arith, within))))
    ∙ sym (least-append (recursive_calls p (first, q)) (flat_map (recursive_calls p) (enumerate_from (first + 1) qs))))

pub recursion-is : (p : Tree) → first_back (map calls_within p.procedures) (enumerate_from 0 (map calls_within p.procedures)) ≡ recursion p
recursion-is p = back-are p 0 p.procedures (omega arith) (λ i within. let same : 0 + i ≡ i = omega arith in ap (λ n. slice_index_or p.procedures n no_procedure) same)

-- once a round finds no more, no later one does
reach-stays : (calls : List (List Call)) (to k j : ℕ) → reach_next calls to (reach_after calls to k) ≡ reach_after calls to k → reach_after calls to (k + j) ≡ reach_after calls to k
reach-stays calls to k zero fixed = let none : k + 0 ≡ k = omega arith in ap (reach_after calls to) none
reach-stays calls to k (suc j) fixed =
    let more : k + suc j ≡ suc (k + j) = omega arith in
    ap (reach_after calls to) more ∙ (ap (reach_next calls to) (reach-stays calls to k j fixed) ∙ fixed)

pub settled-reach : (calls : List (List Call)) (to turn n : ℕ) (reach : List Bool) → reach ≡ reach_after calls to turn → reach_next calls to reach ≡ reach → turn ≤ n → reach ≡ reach_after calls to n
settled-reach calls to turn n reach is fixed few =
    let fixed-after : reach_next calls to (reach_after calls to turn) ≡ reach_after calls to turn = subst (λ (r : List Bool). reach_next calls to r ≡ r) is fixed in
    let sum : turn + (n - turn) ≡ n = omega (arith, few) in
    is ∙ (sym (reach-stays calls to turn (n - turn) fixed-after) ∙ ap (reach_after calls to) sum)
