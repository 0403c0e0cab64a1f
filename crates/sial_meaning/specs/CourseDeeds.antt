-- The deeds along the course: those of each step, and of all steps before a point.
use Rattle.std.specs.Prelude.{ℕ, zero, suc, List, [], ◌++◌, flat_map}
use Rattle.sial_syntax.specs.declared.condition.Cond.{Cond}
use Rattle.sial_syntax.specs.Boxes.{numbers_from, volume, tuple_at}
use Rattle.sial_syntax.specs.Spaces.{box_of}
use Rattle.sial_syntax.specs.Tree.{Block, Pardo}
use Rattle.sial_meaning.specs.Control.{depth_left}
use Rattle.sial_meaning.specs.Course.{course}
use Rattle.sial_meaning.specs.Deeds.{Deed}
use Rattle.sial_meaning.specs.Meaning.{taken_up}
use Rattle.sial_meaning.specs.Own.{unset}
use Rattle.sial_meaning.specs.Ran.{Ran, Through, Broke, view_of, deeds_of, statement_ran, iteration_ran}
use Rattle.sial_meaning.specs.Rest.{Rest, Next}
use Rattle.sial_meaning.specs.Setting.{Setting}
use Rattle.sial_meaning.specs.State.{State}

-- the deeds of one iteration of a pardo that is entered in this state: of the tuple at this place of its box
abbrev pub iteration_deeds : Setting → State → (indices : List ℕ) → (wheres : List Cond) → Block → (rest : Rest) → (number : ℕ) → List Deed
iteration_deeds g s indices wheres body rest number =
    deeds_of (iteration_ran g (view_of s) (depth_left rest) wheres body (taken_up g indices (tuple_at (box_of g.spaces indices) number) (unset g s.own)))

-- the deeds of a whole pardo, its iterations in the order of its box
abbrev pub pardo_deeds : Setting → State → (indices : List ℕ) → (wheres : List Cond) → Block → (rest : Rest) → List Deed
pardo_deeds g s indices wheres body rest = flat_map (iteration_deeds g s indices wheres body rest) (numbers_from 0 (volume (box_of g.spaces indices)))

-- the deeds of a statement outside of pardos; one that traps isn't passed
abbrev pub deeds_if_passed : Ran → List Deed
deeds_if_passed (Through before own) = before
deeds_if_passed (Broke before trap own) = []

-- the deeds of the step from this rest and state
abbrev pub deeds_from : Setting → State → Rest → List Deed
deeds_from g s (Next at line (Pardo indices wheres body) rest) = pardo_deeds g s indices wheres body rest
deeds_from g s (Next at line form rest) = deeds_if_passed (statement_ran g (view_of s) line form s.own)
deeds_from g s rest = []

-- the deeds of the step from a point of the course
abbrev pub deeds_at : Setting → ℕ → List Deed
deeds_at g t = deeds_from g (course g t).work.state (course g t).work.rest

-- the deeds of all steps before a point
abbrev pub deeds_before : Setting → ℕ → List Deed
deeds_before g zero = []
deeds_before g (suc t) = deeds_before g t ++ deeds_at g t
