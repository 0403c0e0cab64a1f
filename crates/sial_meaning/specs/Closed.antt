-- Names under which crates above cite the local step, the fold over an iteration and the course without opening them.
use Rattle.std.specs.Prelude.{ℕ, zero, suc, List}
use Rattle.sial_syntax.specs.declared.condition.Cond.{Cond}
use Rattle.sial_syntax.specs.Tree.{Block, Plain}
use Rattle.sial_meaning.specs.Course as points
use Rattle.sial_meaning.specs.Course.{Point}
use Rattle.sial_meaning.specs.CourseDeeds as along
use Rattle.sial_meaning.specs.Deeds.{Deed}
use Rattle.sial_meaning.specs.LocalStep as local
use Rattle.sial_meaning.specs.LocalStep.{Done, Answer}
use Rattle.sial_meaning.specs.Own.{Own}
use Rattle.sial_meaning.specs.Ran as run
use Rattle.sial_meaning.specs.Ran.{View, Ran}
use Rattle.sial_meaning.specs.Rest.{Rest}
use Rattle.sial_meaning.specs.Setting.{Setting}
use Rattle.sial_meaning.specs.State.{State}
use Rattle.sial_meaning.specs.ToCome as coming

-- the local step
unfoldable pub local_step : Setting → Plain → (values : List (List ℕ)) → Own → (partials : List ℕ) → Answer Done
local_step g form values own partials = local.local_step g form values own partials

-- a statement inside an iteration
unfoldable pub statement_ran : Setting → View → (line : ℕ) → Plain → Own → Ran
statement_ran g view line form own = run.statement_ran g view line form own

-- the fold over an iteration
unfoldable pub iteration_ran : Setting → View → (depth : ℕ) → (wheres : List Cond) → Block → Own → Ran
iteration_ran g view depth wheres body own = run.iteration_ran g view depth wheres body own

-- the fold of the rest of an iteration's work
unfoldable pub rest_ran : Setting → View → Rest → Own → Ran
rest_ran g view rest own = coming.rest_ran g view rest own

-- the course's step
unfoldable pub next_point : Setting → Point → Point
next_point g p = points.next_point g p

-- the course, by its closed step
abbrev pub course : Setting → ℕ → Point
course g zero = points.course g zero
course g (suc t) = next_point g (course g t)

-- the deeds of a step of the course
unfoldable pub deeds_from : Setting → State → Rest → List Deed
deeds_from g s rest = along.deeds_from g s rest
