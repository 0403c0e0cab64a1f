-- Laws of deeds: the fold over an iteration is its deeds, and so are the pardos and the log along the course.
use Rattle.std.specs.Prelude.{◌≡◌, ℕ, suc, List, ◌++◌}
use Rattle.sial_syntax.specs.declared.condition.Cond.{Cond}
use Rattle.sial_syntax.specs.Tree.{Block}
use Rattle.sial_meaning.specs.Course.{course}
use Rattle.sial_meaning.specs.CourseDeeds.{deeds_at, deeds_before}
use Rattle.sial_meaning.specs.CourseLaws.{BeginsWithPardo}
use Rattle.sial_meaning.specs.Deeds.{touches, traps, written, added}
use Rattle.sial_meaning.specs.Meaning.{block_meaning, calls, iteration, taken_up}
use Rattle.sial_meaning.specs.Ran.{view_of, iteration_ran, outcome_in}
use Rattle.sial_meaning.specs.Setting.{Setting}
use Rattle.sial_meaning.specs.Sound.{IsGrantedSetting}
use Rattle.sial_meaning.specs.State.{State}
use Rattle.sial_meaning.specs.Statement.{Copied}

-- the fold over an iteration of a pardo that the course comes to is the iteration's deeds, whatever the shared blocks, the partial scalars, the log and the lines are
abbrev pub IterationsAreTheirDeeds : Type 0
IterationsAreTheirDeeds =
    (g : Setting) → IsGrantedSetting g
    → (t : ℕ) (indices : List ℕ) (wheres : List Cond) (body : Block) → BeginsWithPardo (course g t).work.rest indices wheres body
    → (depth : ℕ) (tuple : List ℕ) (s : State) → s.own ≡ taken_up g indices tuple (course g t).work.state.own
    → iteration wheres (block_meaning Copied g (calls Copied g depth) body) s ≡ outcome_in s (iteration_ran g (view_of s) depth wheres body s.own)

-- the next point's log, blocks, partial scalars and traps are this one's with the deeds of the step
pub record StepsByDeeds (g : Setting) (t : ℕ) : Type 0 where
  pub log : (course g (suc t)).work.state.log ≡ (course g t).work.state.log ++ touches (deeds_at g t)
  pub shared : (course g (suc t)).work.state.shared ≡ written (deeds_at g t) (course g t).work.state.shared
  pub partials : (course g (suc t)).work.state.partials ≡ added (deeds_at g t) (course g t).work.state.partials
  pub traps : (course g (suc t)).traps ≡ (course g t).traps ++ traps (deeds_at g t)

-- so it is past a pardo
abbrev pub PardosAreTheirDeeds : Type 0
PardosAreTheirDeeds =
    (g : Setting) → IsGrantedSetting g
    → (t : ℕ) (indices : List ℕ) (wheres : List Cond) (body : Block) → BeginsWithPardo (course g t).work.rest indices wheres body
    → StepsByDeeds g t

-- the log of each point of the course is the accesses of the deeds before it, and its traps are theirs
pub record CourseIsItsDeeds (g : Setting) (t : ℕ) : Type 0 where
  pub log : (course g t).work.state.log ≡ touches (deeds_before g t)
  pub traps : (course g t).traps ≡ traps (deeds_before g t)

-- so for each point of the course of a granted program
abbrev pub CoursesAreTheirDeeds : Type 0
CoursesAreTheirDeeds = (g : Setting) → IsGrantedSetting g → (t : ℕ) → CourseIsItsDeeds g t
