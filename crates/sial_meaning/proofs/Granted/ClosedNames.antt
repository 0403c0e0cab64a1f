-- Closed names are open ones.
use Rattle.std.proofs.Common.{◌≡◌, ℕ, zero, suc, List, Ok, Err, refl, sym, ap, ◌∙◌, subst}
use Rattle.sial_syntax.specs.declared.condition.Cond.{Cond}
use Rattle.sial_syntax.specs.Tree.{Block, Plain}
use Rattle.sial_meaning.specs.Closed as closed
use Rattle.sial_meaning.specs.ClosedLaws.{ClosedNamesAreOpen, KeepsFrame, LocalStepsKeepTheFrame}
use Rattle.sial_meaning.specs.Course.{Point, next_point, course}
use Rattle.sial_meaning.specs.CourseDeeds.{deeds_from}
use Rattle.sial_meaning.specs.LocalStep.{Done, Answer, local_step}
use Rattle.sial_meaning.specs.Own.{Own}
use Rattle.sial_meaning.specs.Ran.{View, statement_ran, iteration_ran}
use Rattle.sial_meaning.specs.Rest.{Rest}
use Rattle.sial_meaning.specs.Setting.{Setting}
use Rattle.sial_meaning.specs.State.{State}
use Rattle.sial_meaning.specs.ToCome.{rest_ran}
use Rattle.sial_meaning.proofs.StepsReachTheFold.KeptNumbers.{Frame, frame_of, AnswersWith, step_answers}

-- the local step
local-open : (g : Setting) (form : Plain) (values : List (List ℕ)) (own : Own) (partials : List ℕ) → closed.local_step g form values own partials ≡ local_step g form values own partials
unfolding closed.local_step
local-open g form values own partials = refl

-- a statement inside an iteration
statement-open : (g : Setting) (view : View) (line : ℕ) (form : Plain) (own : Own) → closed.statement_ran g view line form own ≡ statement_ran g view line form own
unfolding closed.statement_ran
statement-open g view line form own = refl

-- an iteration
iteration-open : (g : Setting) (view : View) (depth : ℕ) (wheres : List Cond) (body : Block) (own : Own) → closed.iteration_ran g view depth wheres body own ≡ iteration_ran g view depth wheres body own
unfolding closed.iteration_ran
iteration-open g view depth wheres body own = refl

-- what is still to come
rest-open : (g : Setting) (view : View) (rest : Rest) (own : Own) → closed.rest_ran g view rest own ≡ rest_ran g view rest own
unfolding closed.rest_ran
rest-open g view rest own = refl

-- the course's step
next-open : (g : Setting) (p : Point) → closed.next_point g p ≡ next_point g p
unfolding closed.next_point
next-open g p = refl

-- the course
points-open : (g : Setting) (t : ℕ) → closed.course g t ≡ course g t
points-open g zero = refl
points-open g (suc t) = next-open g (closed.course g t) ∙ ap (next_point g) (points-open g t)

-- the deeds of a step
deeds-open : (g : Setting) (s : State) (rest : Rest) → closed.deeds_from g s rest ≡ deeds_from g s rest
unfolding closed.deeds_from
deeds-open g s rest = refl

-- all of them
pub closed-names-are-open : ClosedNamesAreOpen
closed-names-are-open = record {
  local = local-open;
  statement = statement-open;
  iteration = iteration-open;
  rest = rest-open;
  next = next-open;
  points = points-open;
  deeds = deeds-open;
}

-- a local step keeps the numbers of the indices and the created flags
pub local-steps-keep-the-frame : LocalStepsKeepTheFrame
local-steps-keep-the-frame g form values own partials =
    subst (KeepsFrame own) (sym (local-open g form values own partials)) (by_answer (local_step g form values own partials) (step_answers g form values own partials))
  where
    by_answer : (a : Answer Done) → AnswersWith (frame_of own) a → KeepsFrame own a
    by_answer (Ok done) e = (ap (λ (f : Frame). f.0) e, ap (λ (f : Frame). f.1) e)
    by_answer (Err kind) e = tt
