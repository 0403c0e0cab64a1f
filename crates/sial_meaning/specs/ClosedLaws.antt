-- Closed names stand for what they say, and what a crate above needs of the local step.
use Rattle.std.specs.Prelude.{◌≡◌, ℕ, List, Ok, Err}
use Rattle.sial_syntax.specs.declared.condition.Cond.{Cond}
use Rattle.sial_syntax.specs.Tree.{Block, Plain}
use Rattle.sial_meaning.specs.Closed as closed
use Rattle.sial_meaning.specs.Course.{Point, next_point, course}
use Rattle.sial_meaning.specs.CourseDeeds.{deeds_from}
use Rattle.sial_meaning.specs.LocalStep.{Done, Answer, local_step}
use Rattle.sial_meaning.specs.Own.{Own}
use Rattle.sial_meaning.specs.Ran.{View, statement_ran, iteration_ran}
use Rattle.sial_meaning.specs.Rest.{Rest}
use Rattle.sial_meaning.specs.Setting.{Setting}
use Rattle.sial_meaning.specs.State.{State}
use Rattle.sial_meaning.specs.ToCome.{rest_ran}

-- each closed name is the definition of that name
pub record ClosedNamesAreOpen : Type 0 where
  pub local : (g : Setting) (form : Plain) (values : List (List ℕ)) (own : Own) (partials : List ℕ) → closed.local_step g form values own partials ≡ local_step g form values own partials
  pub statement : (g : Setting) (view : View) (line : ℕ) (form : Plain) (own : Own) → closed.statement_ran g view line form own ≡ statement_ran g view line form own
  pub iteration : (g : Setting) (view : View) (depth : ℕ) (wheres : List Cond) (body : Block) (own : Own) → closed.iteration_ran g view depth wheres body own ≡ iteration_ran g view depth wheres body own
  pub rest : (g : Setting) (view : View) (rest : Rest) (own : Own) → closed.rest_ran g view rest own ≡ rest_ran g view rest own
  pub next : (g : Setting) (p : Point) → closed.next_point g p ≡ next_point g p
  pub points : (g : Setting) (t : ℕ) → closed.course g t ≡ course g t
  pub deeds : (g : Setting) (s : State) (rest : Rest) → closed.deeds_from g s rest ≡ deeds_from g s rest

-- an answer keeps the numbers of the indices and the created flags
abbrev pub KeepsFrame : Own → Answer Done → Type 0
KeepsFrame own (Ok done) = (done.own.values ≡ own.values) × (done.own.created ≡ own.created)
KeepsFrame own (Err kind) = Unit {0}

-- so does each local step
abbrev pub LocalStepsKeepTheFrame : Type 0
LocalStepsKeepTheFrame = (g : Setting) (form : Plain) (values : List (List ℕ)) (own : Own) (partials : List ℕ) → KeepsFrame own (closed.local_step g form values own partials)
