-- All statements of a program in one list, with the sides on which they stand.
use Rattle.std.specs.Prelude.{ℕ, ◌+◌, List, [], ◌∷◌, ◌++◌, map, Bool, true, false, slice_index_or}
use Rattle.sial_syntax.specs.Sides.{Sides, Sided, no_side, sides_at}
use Rattle.sial_syntax.specs.Tree.{Tree, Procedure, Block, End, Then, Plain, Do, DoIn, Pardo, If, IfElse, plain_form}
use Rattle.scalar_discipline.specs.declared.placed.Placed.{Placed}
use Rattle.scalar_discipline.specs.declared.standing.Standing.{Standing}

-- sides as the rules have them
abbrev pub sides_of : Standing → Sides
sides_of s = record { outer = s.outer; inner = s.inner }

-- a statement as the rules have it
abbrev pub sided_of : Placed → Sided
sided_of s = record { line = s.line; form = plain_form s.form.now; sides = sides_of s.sides }

-- statements as the rules have them
abbrev pub seen : List Placed → List Sided
seen all = map sided_of all

abbrev mutual
  -- statements, and behind them those of a body that has these sides
  pub with_body : Sides → (within : Bool) → Block → List Sided → List Sided
  with_body own within End all = all
  with_body own within (Then line form rest) all =
      with_body own within rest
      (with_inner own within form (all ++ record { line = line; form = form; sides = sides_at own within } ∷ []))

  -- the same of the statements inside a statement
  pub with_inner : Sides → (within : Bool) → Plain → List Sided → List Sided
  with_inner own within (Do index body) all = with_body own within body all
  with_inner own within (DoIn sub index body) all = with_body own within body all
  with_inner own within (Pardo indices wheres body) all = with_body own true body all
  with_inner own within (If cond body) all = with_body own within body all
  with_inner own within (IfElse cond body other) all = with_body own within other (with_body own within body all)
  with_inner own within _ all = all

-- the same of procedures with these sides, from one of a number on
abbrev pub with_procedures : List Sides → (place : ℕ) → List Procedure → List Sided → List Sided
with_procedures sides place [] all = all
with_procedures sides place (q ∷ qs) all =
    with_procedures sides (place + 1) qs (with_body (slice_index_or sides place no_side) false q.body all)

-- the same of all procedures
abbrev pub with_all : List Sides → List Procedure → List Sided → List Sided
with_all sides procedures all = with_procedures sides 0 procedures all

-- the sides of the program's own statements outside of pardos
abbrev pub outside : Sides
outside = record { outer = true; inner = false }

-- all statements, where the procedures have these sides
abbrev pub all_placed : Tree → List Sides → List Sided
all_placed p sides = with_procedures sides 0 p.procedures (with_body outside false p.body [])
