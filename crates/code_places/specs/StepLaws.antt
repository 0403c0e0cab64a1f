-- The code has the work to which each step leads.
use Rattle.std.specs.Prelude.{ℕ, ◌+◌, ◌<◌, length}
use Rattle.sial_syntax.specs.Numbering.{sizes, entry_of}
use Rattle.sial_syntax.specs.Proper.{IsProper}
use Rattle.sial_syntax.specs.Tree.{Tree}
use Rattle.sial_meaning.specs.Control.{Led, Goes, Halts, control}
use Rattle.sial_meaning.specs.Own.{Own}
use Rattle.sial_meaning.specs.Rest.{Rest}
use Rattle.sial_meaning.specs.Setting.{Setting, procedure_body}
use Rattle.sial_meaning.specs.Statement.{Reading}
use Rattle.sial_meaning.specs.Step.{Work, Stepped, Moved, Halted, Ended, step, steps, start_work}
use Rattle.sip_tables.specs.Code.{instruction}
use Rattle.sip_tables.specs.declared.instruction.Operation.TheVariants as op
use Rattle.code_places.specs.Follows.{Follows}
use Rattle.code_places.specs.Standing.{BodyStands, HasAt}

-- a procedure stands at its entry, and its return behind it
pub record ProcedureStands (g : Setting) (procedure : ℕ) : Type 0 where
  pub body : BodyStands g.program (entry_of g.program procedure) (procedure_body g procedure)
  pub ends : HasAt g.program (entry_of g.program procedure + sizes (procedure_body g procedure)) (instruction 0 op.Return)

-- each procedure of a proper program does
abbrev pub ProceduresFollow : Type 0
ProceduresFollow =
    (g : Setting) (procedure : ℕ) → IsProper g.program → procedure < length g.program.procedures → ProcedureStands g procedure

-- the code has the work to which control leads; a trap leads to none
abbrev pub LedFollows : Tree → Led → Type 0
LedFollows p (Goes rest own) = Follows p rest
LedFollows p (Halts trap) = Unit {0}

-- control keeps to the code
abbrev pub ControlFollows : Type 0
ControlFollows =
    (g : Setting) (rest : Rest) (own : Own) → IsProper g.program → Follows g.program rest
    → LedFollows g.program (control g rest own)

-- the code has the work to which a step leads; a trap and the program's end lead to none
abbrev pub SteppedFollows : Tree → Stepped → Type 0
SteppedFollows p (Moved w) = Follows p w.rest
SteppedFollows p (Halted trap s) = Unit {0}
SteppedFollows p Ended = Unit {0}

-- each step keeps to the code
abbrev pub StepFollows : Type 0
StepFollows =
    (reading : Reading) (g : Setting) (w : Work) → IsProper g.program → Follows g.program w.rest
    → SteppedFollows g.program (step reading g w)

-- so do all steps from the start of a proper program
abbrev pub StepsFollow : Type 0
StepsFollow =
    (reading : Reading) (g : Setting) (count : ℕ) → IsProper g.program
    → SteppedFollows g.program (steps reading g count (start_work g))
