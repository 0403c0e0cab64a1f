-- The sides that calls hand on, round after round.
use Rattle.std.specs.Prelude.{ℕ, zero, suc, ◌+◌, List, [], ◌∷◌, ◌++◌, map, slice_index_or, slice_set}
use Rattle.sial_syntax.specs.Sides.{Sides, no_side, either_side, sides_at}
use Rattle.scalar_discipline.specs.declared.call.Call.{Call}
use Rattle.scalar_discipline.specs.Flat.{outside}

-- what the calls of a body that has these sides hand on: to which procedure, and which sides
abbrev pub handed : Sides → List Call → List (ℕ × Sides)
handed own calls = map (λ (c : Call). (c.procedure, sides_at own c.within)) calls

-- the same of procedures with these sides, from one of a number on
abbrev pub handed_by : List Sides → (place : ℕ) → List (List Call) → List (ℕ × Sides)
handed_by sides place [] = []
handed_by sides place (own ∷ others) = handed (slice_index_or sides place no_side) own ++ handed_by sides (place + 1) others

-- the sides of procedures, once one is given some beside its own
abbrev pub given_more : (procedure : ℕ) → Sides → List Sides → List Sides
given_more procedure sides given = slice_set given procedure (either_side (slice_index_or given procedure no_side) sides)

-- the sides of procedures, once these are handed on
abbrev pub hand_on : List (ℕ × Sides) → List Sides → List Sides
hand_on [] given = given
hand_on (h ∷ hs) given = hand_on hs (given_more h.0 h.1 given)

-- the same, once all procedures with these sides hand on theirs
abbrev pub handed_on : List Sides → List (List Call) → List Sides → List Sides
handed_on sides calls given = hand_on (handed_by sides 0 calls) given

-- no sides for any procedure
abbrev pub nowhere : List (List Call) → List Sides
nowhere calls = map (λ (own : List Call). no_side) calls

-- the sides that a round gives procedures
abbrev pub next_sides : (body : List Call) → List (List Call) → List Sides → List Sides
next_sides body calls sides = hand_on (handed outside body ++ handed_by sides 0 calls) (nowhere calls)

-- the sides after so many rounds
abbrev pub sides_after : (body : List Call) → List (List Call) → (rounds : ℕ) → List Sides
sides_after body calls zero = nowhere calls
sides_after body calls (suc n) = next_sides body calls (sides_after body calls n)
