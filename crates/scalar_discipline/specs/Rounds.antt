-- How deep procedures call and what they reach, round after round, by the lists of their calls.
use Rattle.std.specs.Prelude.{ℕ, zero, suc, ◌+◌, List, [], ◌∷◌, map, filter, fold, max, length, replicate, slice_index_or, Bool, false, ◌==◌, ◌||◌, Option, Some, None}
use Rattle.std.specs.List.{list_any, enumerate_from}
use Rattle.sial_syntax.specs.SideRules.{least, least_with}
use Rattle.scalar_discipline.specs.declared.call.Call.{Call}

-- the greatest depth that some calls lead to; a procedure that isn't there is 1 deep, since it calls none
abbrev pub deepest : (depths : List ℕ) → List Call → ℕ
deepest depths calls = fold max 0 (map (λ (c : Call). slice_index_or depths c.procedure 1) calls)

-- the depths of procedures with these calls, one call more
abbrev pub deeper : List (List Call) → (depths : List ℕ) → List ℕ
deeper calls depths = map (λ own. 1 + deepest depths own) calls

-- the depths after so many rounds; before the first each procedure is 1 deep
abbrev pub depths_after : List (List Call) → (rounds : ℕ) → List ℕ
depths_after calls zero = replicate (length calls) 1
depths_after calls (suc n) = deeper calls (depths_after calls n)

-- whether some of these calls lead to a procedure that reaches
abbrev pub leads_on : (reach : List Bool) → List Call → Bool
leads_on reach calls = list_any (λ (c : Call). slice_index_or reach c.procedure false) calls

-- which procedures with these calls reach another, with one call more
abbrev pub reach_next : List (List Call) → (to : ℕ) → (reach : List Bool) → List Bool
reach_next calls to reach = map (λ (x : ℕ × List Call). (x.0 == to) || leads_on reach x.1) (enumerate_from 0 calls)

-- which reach it after so many rounds
abbrev pub reach_after : List (List Call) → (to rounds : ℕ) → List Bool
reach_after calls to zero = map (λ (x : ℕ × List Call). x.0 == to) (enumerate_from 0 calls)
reach_after calls to (suc n) = reach_next calls to (reach_after calls to n)

-- the lines of the calls to procedures that reach
abbrev pub lines_back : (reach : List Bool) → List Call → List ℕ
lines_back reach calls = map (λ (c : Call). c.line) (filter (λ (c : Call). slice_index_or reach c.procedure false) calls)

-- the lesser of two lines, where there are any
abbrev pub lesser : Option ℕ → Option ℕ → Option ℕ
lesser None other = other
lesser (Some line) other = Some (least_with line other)

-- the least line of a call that leads back, among the calls of procedures with these numbers
abbrev pub first_back : List (List Call) → List (ℕ × List Call) → Option ℕ
first_back calls [] = None
first_back calls (x ∷ xs) = lesser (least (lines_back (reach_after calls x.0 (length calls)) x.1)) (first_back calls xs)
