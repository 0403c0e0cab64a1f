-- Laws of what is still to come of an iteration: a step takes its first part off.
use Rattle.std.specs.Prelude.{◌≡◌, ℕ, ◌+◌, List, [], ◌++◌}
use Rattle.sial_syntax.specs.declared.condition.Cond.{Cond}
use Rattle.sial_syntax.specs.Boxes.{tuple_at}
use Rattle.sial_syntax.specs.Spaces.{box_of}
use Rattle.sial_syntax.specs.Tree.{Block, Plain, Pardo}
use Rattle.sial_meaning.specs.Control.{Led, Goes, Halts, depth_left, taken}
use Rattle.sial_meaning.specs.Control as control
use Rattle.sial_meaning.specs.Course.{course}
use Rattle.sial_meaning.specs.Deeds.{Deed}
use Rattle.sial_meaning.specs.Meaning.{taken_up}
use Rattle.sial_meaning.specs.Next.{Statement, next_of}
use Rattle.sial_meaning.specs.Own.{Own, unset}
use Rattle.sial_meaning.specs.Ran.{View, view_of, Ran, Broke, outcome_in, behind, statement_ran, iteration_ran}
use Rattle.sial_meaning.specs.Rest.{PardoAt, Rest, Next, Within}
use Rattle.sial_meaning.specs.Setting.{Setting}
use Rattle.sial_meaning.specs.Sound.{IsGrantedSetting}
use Rattle.sial_meaning.specs.State.{State}
use Rattle.sial_meaning.specs.Statement.{Copied, statement}
use Rattle.sial_meaning.specs.ToCome.{rest_ran, Inner, On, Out, AtEnd, done_on, inner_step, inner_steps}

-- a pardo that a point of the course begins with
pub record PardoOf : Type 0 where
  pub at : ℕ
  pub line : ℕ
  pub indices : List ℕ
  pub wheres : List Cond
  pub body : Block
  pub rest : Rest

-- the work that begins with it
abbrev pub entry_of : PardoOf → Rest
entry_of p = Next p.at p.line (Pardo p.indices p.wheres p.body) p.rest

-- its place in the code
abbrev pub code_of : PardoOf → PardoAt
code_of p = control.pardo_at p.at p.indices p.wheres p.body

-- an iteration begins with this work and this part of the worker's: a tuple taken up from what the worker held as the pardo was entered
abbrev pub Begins : Setting → (t : ℕ) → PardoOf → (number : ℕ) → Rest → Own → Type 0
Begins g t p number r own = ((course g t).work.rest ≡ entry_of p) × (taken g (code_of p) number p.rest (unset g (course g t).work.state.own) ≡ Goes r own)

-- steps inside an iteration lead from its beginning to this work and this part of the worker's, and did so much
pub record IsInside (g : Setting) (view : View) (t : ℕ) (p : PardoOf) (number : ℕ) (did : List Deed) (r : Rest) (own : Own) : Type 0 where
  pub first : Rest
  pub entry : Own
  pub begins : Begins g t p number first entry
  pub count : ℕ
  pub leads : inner_steps g view count first entry ≡ On did r own

-- the fold of a whole iteration
abbrev pub whole_iteration : Setting → View → (t : ℕ) → PardoOf → (number : ℕ) → Ran
whole_iteration g view t p number =
    iteration_ran g view (depth_left p.rest) p.wheres p.body (taken_up g p.indices (tuple_at (box_of g.spaces p.indices) number) (unset g (course g t).work.state.own))

-- as it begins, all of an iteration is still to come
abbrev pub AllIsToCome : Type 0
AllIsToCome =
    (g : Setting) (view : View) → IsGrantedSetting g
    → (t : ℕ) (p : PardoOf) (number : ℕ) (r : Rest) (own : Own) → Begins g t p number r own → rest_ran g view r own ≡ whole_iteration g view t p number

-- what a step does comes before all that is still to come behind it; a trap is all that was to come; and nothing is where the body is at its end
abbrev pub TakesFirst : Setting → View → Rest → Own → Inner → Type 0
TakesFirst g view r own (On did rest held) = rest_ran g view r own ≡ behind did (rest_ran g view rest held)
TakesFirst g view r own (Out did trap held) = rest_ran g view r own ≡ Broke did trap held
TakesFirst g view r own AtEnd = (pardo : PardoAt) × (number : ℕ) × (rest : Rest) × (r ≡ Within pardo number rest)

-- wherever steps lead inside an iteration, the next takes the first part off
abbrev pub StepsTakeTheFirstPart : Type 0
StepsTakeTheFirstPart =
    (g : Setting) (view : View) → IsGrantedSetting g
    → (t : ℕ) (p : PardoOf) (number : ℕ) (did : List Deed) (r : Rest) (own : Own) → IsInside g view t p number did r own
    → TakesFirst g view r own (inner_step g view r own)

-- what was done and what is still to come are together the iteration
abbrev pub DoneAndToCome : Type 0
DoneAndToCome =
    (g : Setting) (view : View) → IsGrantedSetting g
    → (t : ℕ) (p : PardoOf) (number : ℕ) (did : List Deed) (r : Rest) (own : Own) → IsInside g view t p number did r own
    → whole_iteration g view t p number ≡ behind did (rest_ran g view r own)

-- the beginning of an iteration is inside it, with nothing done
abbrev pub BeginningsAreInside : Type 0
BeginningsAreInside = (g : Setting) (view : View) (t : ℕ) (p : PardoOf) (number : ℕ) (r : Rest) (own : Own) → Begins g t p number r own → IsInside g view t p number [] r own

-- and so is what one step more leads to
abbrev pub StepsStayInside : Type 0
StepsStayInside =
    (g : Setting) (view : View) (t : ℕ) (p : PardoOf) (number : ℕ) (did more : List Deed) (r rest : Rest) (own held : Own)
    → IsInside g view t p number did r own → inner_step g view r own ≡ On more rest held → IsInside g view t p number (did ++ more) rest held

-- a statement that comes next there is its deeds, in each state that an iteration sees so
abbrev pub StatementsInsideAreTheirDeeds : Type 0
StatementsInsideAreTheirDeeds =
    (g : Setting) (view : View) → IsGrantedSetting g
    → (t : ℕ) (p : PardoOf) (number : ℕ) (did : List Deed) (at line : ℕ) (form : Plain) (rest : Rest) (s : State)
    → IsInside g view t p number did (Next at line form rest) s.own → next_of (Next at line form rest) ≡ Statement line form rest → view_of s ≡ view
    → statement Copied g line form s ≡ outcome_in s (statement_ran g view line form s.own)

-- the steps of an iteration come to the end of the pardo's body with all of it done, or to its trap
abbrev pub IterationsEnd : Type 0
IterationsEnd =
    (g : Setting) (view : View) → IsGrantedSetting g
    → (t : ℕ) (p : PardoOf) (number : ℕ) (r : Rest) (own : Own) → Begins g t p number r own
    → (count : ℕ) × (inner_steps g view count r own ≡ done_on (whole_iteration g view t p number) (Within (code_of p) (number + 1) p.rest))
