-- Calls that lead to the same procedures.
use Rattle.std.specs.Prelude.{◌≡◌, List, [], ◌∷◌, Bool}
use Rattle.scalar_discipline.specs.declared.call.Call.{Call}
use Rattle.scalar_discipline.specs.Rounds.{leads_on}

-- two lists of calls of few many procedures: the calls of each lead to a procedure that reaches in both, or in none
abbrev pub LeadAlike : List (List Call) → List (List Call) → Type 0
LeadAlike [] [] = Unit {0}
LeadAlike [] (b ∷ bs) = ⊥
LeadAlike (a ∷ few) [] = ⊥
LeadAlike (a ∷ few) (b ∷ bs) = ((reach : List Bool) → leads_on reach a ≡ leads_on reach b) × LeadAlike few bs
