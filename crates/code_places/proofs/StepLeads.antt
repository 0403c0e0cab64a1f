-- Each step goes where the instruction at the cursor leads.
use Rattle.sial_syntax.specs.Tree.{Tree, Do, DoIn, Pardo, If, IfElse, Call, Assign, Get, Request, Put, Prepare, Create, Delete, Allocate, Deallocate, Collective, SipBarrier, ServerBarrier, Print, PrintScalar, Integrals}
use Rattle.sial_meaning.specs.Control.{Led, Goes, Halts, control}
use Rattle.sial_meaning.specs.Rest.{Rest, Over, Next, Turn, Join, Back, Within}
use Rattle.sial_meaning.specs.Setting.{Setting}
use Rattle.sial_meaning.specs.State.{State}
use Rattle.sial_meaning.specs.Statement.{Outcome, Went, Stopped, Reading, statement}
use Rattle.sial_meaning.specs.Step.{step_from, led, done}
use Rattle.code_places.proofs.LeadLemmas.{control_is_led}
use Rattle.code_places.specs.Leads.{cursor, Leads, LeadsControl, LeadsStep, StepIsLed}
use Rattle.sip_tables.specs.declared.instruction.Operation.{Operation}

-- where control leads in a state
led_leads : (p : Tree) (o : Operation) (from : Rest) (s : State) (to : Led) → LeadsControl p o (cursor from) to → LeadsStep p o (cursor from) (led s to)
led_leads p o from s (Goes rest own) leads = leads
led_leads p o from s (Halts trap) leads = tt

-- where a statement leads
done_leads : (p : Tree) (o : Operation) (from : Rest) (out : Outcome) (rest : Rest) → Leads p o (cursor from) (cursor rest) → LeadsStep p o (cursor from) (done out rest)
done_leads p o from (Went s) rest leads = leads
done_leads p o from (Stopped trap s) rest leads = tt

-- a step goes where control does
by_control : (reading : Reading) (g : Setting) (o : Operation) (rest : Rest) (s : State) → LeadsControl g.program o (cursor rest) (control g rest s.own) → LeadsStep g.program o (cursor rest) (step_from reading g rest s)
by_control reading g o (Over at) s leads = tt
by_control reading g o (Turn loop last rest) s leads = led_leads g.program o (Turn loop last rest) s (control g (Turn loop last rest) s.own) leads
by_control reading g o (Join at rest) s leads = leads
by_control reading g o (Back at values rest) s leads = leads
by_control reading g o (Within pardo number rest) s leads = led_leads g.program o (Within pardo number rest) s (control g (Within pardo number rest) s.own) leads
by_control reading g o (Next at line (Do index body) rest) s leads = led_leads g.program o (Next at line (Do index body) rest) s (control g (Next at line (Do index body) rest) s.own) leads
by_control reading g o (Next at line (DoIn sub index body) rest) s leads = led_leads g.program o (Next at line (DoIn sub index body) rest) s (control g (Next at line (DoIn sub index body) rest) s.own) leads
by_control reading g o (Next at line (Pardo indices wheres body) rest) s leads = led_leads g.program o (Next at line (Pardo indices wheres body) rest) s (control g (Next at line (Pardo indices wheres body) rest) s.own) leads
by_control reading g o (Next at line (If test body) rest) s leads = led_leads g.program o (Next at line (If test body) rest) s (control g (Next at line (If test body) rest) s.own) leads
by_control reading g o (Next at line (IfElse test body other) rest) s leads = led_leads g.program o (Next at line (IfElse test body other) rest) s (control g (Next at line (IfElse test body other) rest) s.own) leads
by_control reading g o (Next at line (Call procedure) rest) s leads = led_leads g.program o (Next at line (Call procedure) rest) s (control g (Next at line (Call procedure) rest) s.own) leads
by_control reading g o (Next at line (Assign target combining right) rest) s leads = done_leads g.program o (Next at line (Assign target combining right) rest) (statement reading g line (Assign target combining right) s) rest leads
by_control reading g o (Next at line (Get block) rest) s leads = done_leads g.program o (Next at line (Get block) rest) (statement reading g line (Get block) s) rest leads
by_control reading g o (Next at line (Request block) rest) s leads = done_leads g.program o (Next at line (Request block) rest) (statement reading g line (Request block) s) rest leads
by_control reading g o (Next at line (Put block how from) rest) s leads = done_leads g.program o (Next at line (Put block how from) rest) (statement reading g line (Put block how from) s) rest leads
by_control reading g o (Next at line (Prepare block how from) rest) s leads = done_leads g.program o (Next at line (Prepare block how from) rest) (statement reading g line (Prepare block how from) s) rest leads
by_control reading g o (Next at line (Create array) rest) s leads = done_leads g.program o (Next at line (Create array) rest) (statement reading g line (Create array) s) rest leads
by_control reading g o (Next at line (Delete array) rest) s leads = done_leads g.program o (Next at line (Delete array) rest) (statement reading g line (Delete array) s) rest leads
by_control reading g o (Next at line (Allocate array slots) rest) s leads = done_leads g.program o (Next at line (Allocate array slots) rest) (statement reading g line (Allocate array slots) s) rest leads
by_control reading g o (Next at line (Deallocate array slots) rest) s leads = done_leads g.program o (Next at line (Deallocate array slots) rest) (statement reading g line (Deallocate array slots) s) rest leads
by_control reading g o (Next at line (Collective into from) rest) s leads = done_leads g.program o (Next at line (Collective into from) rest) (statement reading g line (Collective into from) s) rest leads
by_control reading g o (Next at line SipBarrier rest) s leads = done_leads g.program o (Next at line SipBarrier rest) (statement reading g line SipBarrier s) rest leads
by_control reading g o (Next at line ServerBarrier rest) s leads = done_leads g.program o (Next at line ServerBarrier rest) (statement reading g line ServerBarrier s) rest leads
by_control reading g o (Next at line (Print printed) rest) s leads = done_leads g.program o (Next at line (Print printed) rest) (statement reading g line (Print printed) s) rest leads
by_control reading g o (Next at line (PrintScalar scalar) rest) s leads = done_leads g.program o (Next at line (PrintScalar scalar) rest) (statement reading g line (PrintScalar scalar) s) rest leads
by_control reading g o (Next at line (Integrals block) rest) s leads = done_leads g.program o (Next at line (Integrals block) rest) (statement reading g line (Integrals block) s) rest leads

pub step_is_led : StepIsLed
step_is_led reading g w i proper follows has = by_control reading g i.operation w.rest w.state (control_is_led g w.rest w.state.own i proper follows has)
