-- Each step keeps to the code.
use Rattle.std.proofs.Common.{ℕ, zero, suc}
use Rattle.sial_syntax.specs.Proper.{IsProper}
use Rattle.sial_syntax.specs.Tree.{Tree, Plain, Do, DoIn, Pardo, If, IfElse, Call, Assign, Get, Request, Put, Prepare, Create, Delete, Allocate, Deallocate, Collective, SipBarrier, ServerBarrier, Print, PrintScalar, Integrals}
use Rattle.sial_meaning.specs.Control.{Led, Goes, Halts, control}
use Rattle.sial_meaning.specs.Rest.{Rest, Over, Next, Turn, Join, Back, Within}
use Rattle.sial_meaning.specs.Setting.{Setting}
use Rattle.sial_meaning.specs.State.{State}
use Rattle.sial_meaning.specs.Statement.{Outcome, Went, Stopped, Reading, statement}
use Rattle.sial_meaning.specs.Step.{Work, Stepped, Moved, Halted, Ended, step, step_from, steps, go_on, led, done, start_work}
use Rattle.code_places.proofs.Pushing.{work_starts}
use Rattle.code_places.specs.Follows.{Follows}
use Rattle.code_places.specs.StepLaws.{LedFollows, SteppedFollows, StepFollows, StepsFollow}
use Rattle.code_places.proofs.ControlLemmas.{control_follows}

-- where control leads in a state
led_follows : (p : Tree) (s : State) (to : Led) → LedFollows p to → SteppedFollows p (led s to)
led_follows p s (Goes rest own) follows = follows
led_follows p s (Halts trap) follows = tt

-- where a statement leads
done_follows : (p : Tree) (out : Outcome) (rest : Rest) → Follows p rest → SteppedFollows p (done out rest)
done_follows p (Went s) rest follows = follows
done_follows p (Stopped trap s) rest follows = tt

-- a step at a statement
form_steps : (reading : Reading) (g : Setting) (at line : ℕ) (form : Plain) (rest : Rest) (s : State) → IsProper g.program → Follows g.program (Next at line form rest) → SteppedFollows g.program (step_from reading g (Next at line form rest) s)
form_steps reading g at line (Do index body) rest s proper follows = led_follows g.program s (control g (Next at line (Do index body) rest) s.own) (control_follows g (Next at line (Do index body) rest) s.own proper follows)
form_steps reading g at line (DoIn sub index body) rest s proper follows = led_follows g.program s (control g (Next at line (DoIn sub index body) rest) s.own) (control_follows g (Next at line (DoIn sub index body) rest) s.own proper follows)
form_steps reading g at line (Pardo indices wheres body) rest s proper follows = led_follows g.program s (control g (Next at line (Pardo indices wheres body) rest) s.own) (control_follows g (Next at line (Pardo indices wheres body) rest) s.own proper follows)
form_steps reading g at line (If test body) rest s proper follows = led_follows g.program s (control g (Next at line (If test body) rest) s.own) (control_follows g (Next at line (If test body) rest) s.own proper follows)
form_steps reading g at line (IfElse test body other) rest s proper follows = led_follows g.program s (control g (Next at line (IfElse test body other) rest) s.own) (control_follows g (Next at line (IfElse test body other) rest) s.own proper follows)
form_steps reading g at line (Call procedure) rest s proper follows = led_follows g.program s (control g (Next at line (Call procedure) rest) s.own) (control_follows g (Next at line (Call procedure) rest) s.own proper follows)
form_steps reading g at line (Assign target combining right) rest s proper follows = done_follows g.program (statement reading g line (Assign target combining right) s) rest follows.2
form_steps reading g at line (Get block) rest s proper follows = done_follows g.program (statement reading g line (Get block) s) rest follows.2
form_steps reading g at line (Request block) rest s proper follows = done_follows g.program (statement reading g line (Request block) s) rest follows.2
form_steps reading g at line (Put block how from) rest s proper follows = done_follows g.program (statement reading g line (Put block how from) s) rest follows.2
form_steps reading g at line (Prepare block how from) rest s proper follows = done_follows g.program (statement reading g line (Prepare block how from) s) rest follows.2
form_steps reading g at line (Create array) rest s proper follows = done_follows g.program (statement reading g line (Create array) s) rest follows.2
form_steps reading g at line (Delete array) rest s proper follows = done_follows g.program (statement reading g line (Delete array) s) rest follows.2
form_steps reading g at line (Allocate array slots) rest s proper follows = done_follows g.program (statement reading g line (Allocate array slots) s) rest follows.2
form_steps reading g at line (Deallocate array slots) rest s proper follows = done_follows g.program (statement reading g line (Deallocate array slots) s) rest follows.2
form_steps reading g at line (Collective into from) rest s proper follows = done_follows g.program (statement reading g line (Collective into from) s) rest follows.2
form_steps reading g at line SipBarrier rest s proper follows = done_follows g.program (statement reading g line SipBarrier s) rest follows.2
form_steps reading g at line ServerBarrier rest s proper follows = done_follows g.program (statement reading g line ServerBarrier s) rest follows.2
form_steps reading g at line (Print printed) rest s proper follows = done_follows g.program (statement reading g line (Print printed) s) rest follows.2
form_steps reading g at line (PrintScalar scalar) rest s proper follows = done_follows g.program (statement reading g line (PrintScalar scalar) s) rest follows.2
form_steps reading g at line (Integrals block) rest s proper follows = done_follows g.program (statement reading g line (Integrals block) s) rest follows.2

-- a step of the rest of the work
from_follows : (reading : Reading) (g : Setting) (r : Rest) (s : State) → IsProper g.program → Follows g.program r → SteppedFollows g.program (step_from reading g r s)
from_follows reading g (Over at) s proper follows = tt
from_follows reading g (Next at line form rest) s proper follows = form_steps reading g at line form rest s proper follows
from_follows reading g (Turn loop last rest) s proper follows = led_follows g.program s (control g (Turn loop last rest) s.own) (control_follows g (Turn loop last rest) s.own proper follows)
from_follows reading g (Join at rest) s proper follows = follows.1
from_follows reading g (Back at values rest) s proper follows = follows.1
from_follows reading g (Within pardo number rest) s proper follows = led_follows g.program s (control g (Within pardo number rest) s.own) (control_follows g (Within pardo number rest) s.own proper follows)

pub step_follows : StepFollows
step_follows reading g w proper follows = from_follows reading g w.rest w.state proper follows

-- all steps from some work
go_follows : (p : Tree) (next : Work → Stepped) (out : Stepped) → SteppedFollows p out → ((w : Work) → Follows p w.rest → SteppedFollows p (next w)) → SteppedFollows p (go_on next out)
go_follows p next (Moved w) follows keep = keep w follows
go_follows p next (Halted trap s) follows keep = tt
go_follows p next Ended follows keep = tt

steps_keep : (reading : Reading) (g : Setting) (count : ℕ) (w : Work) → IsProper g.program → Follows g.program w.rest → SteppedFollows g.program (steps reading g count w)
steps_keep reading g zero w proper follows = follows
steps_keep reading g (suc n) w proper follows =
    go_follows g.program (steps reading g n) (step reading g w) (step_follows reading g w proper follows) (λ v f. steps_keep reading g n v proper f)

pub steps_follow : StepsFollow
steps_follow reading g count proper = steps_keep reading g count (start_work g) proper (work_starts g proper)
