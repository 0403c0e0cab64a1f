use Rattle.std.proofs.Common.{◌≡◌, ℕ, ◌<◌, List, Result, length, sym, ap, ◌∙◌, subst, refl}
use Rattle.sip_setting.specs.Seen.{setting_of}
use Rattle.sip_tables.specs.declared.instruction.Operation.{Operation}
use Rattle.sip_tables.specs.Flatten.{flatten}
use Rattle.sial_meaning.specs.Control.{Led, control}
use Rattle.sial_meaning.specs.Next as next
use Rattle.sial_meaning.specs.Next.{Task, next_of}
use Rattle.code_places.specs.Items.{ItemOf}
use Rattle.code_places.specs.Standing.{HasAt}
use Rattle.exec_control.proofs.StandLemmas.{at_in_code, item_is}
use Rattle.exec_core.proofs.StandLemmas.{says_is}
use Rattle.exec_control.specs.Stands.{IsControl}
use Rattle.exec_alone.specs.Turns.{turns_of}
use Rattle.exec_alone.specs.Alone.{GoesAlone}
use Rattle.exec_alone.specs.declared.halt.Halt.{Halt}
use Rattle.exec_alone.proofs.TurnLemmas.{TaskTurns, TurnsAre, control-turns}
use Rattle.exec_alone.proofs.AloneLemmas.{goes-alone, only-control}
use Rattle.exec_alone.proofs.turns.Turns.go.Goals as goal

pub instruction-instruction-requires : goal.instruction-instruction-requires
instruction-instruction-requires c =
    let g = setting_of c.args.job.now in
    let w = c.requires.at_work in
    subst (λ (n : ℕ). n < length (flatten g.program).code)
    (sym (c.place.ensures g c.args.pool.now w.rest w.own w.partials w.stands.local ∙ sym w.stands.local.control.at))
    (at_in_code g c.args.local.now.control w.rest w.own w.stands.local.control)

pub turn-requires : goal.turn-requires
turn-requires c =
    let g = setting_of c.args.job.now in
    let w = c.requires.at_work in
    let i = c.instruction-instruction.result.now in
    let at_is = c.place.ensures g c.args.pool.now w.rest w.own w.partials w.stands.local ∙ sym w.stands.local.control.at in
    let has = subst (λ (n : ℕ). HasAt g.program n i) at_is c.instruction-instruction.ensures in
    let item = subst (λ (o : Operation). ItemOf g.program w.rest i.line o) c.in-EndPardo.is (item_is g c.args.local.now.control w.rest w.own i w.stands.local.control has) in
    record { at_end = (w, ap next_of item.is) }

pub enter-requires : goal.enter-requires
enter-requires c =
    let g = setting_of c.args.job.now in
    let w = c.requires.at_work in
    let i = c.instruction-instruction.result.now in
    let at_is = c.place.ensures g c.args.pool.now w.rest w.own w.partials w.stands.local ∙ sym w.stands.local.control.at in
    let has = subst (λ (n : ℕ). HasAt g.program n i) at_is c.instruction-instruction.ensures in
    let item = subst (λ (o : Operation). ItemOf g.program w.rest i.line o) c.in-Pardo.is (item_is g c.args.local.now.control w.rest w.own i w.stands.local.control has) in
    record { at_work = (w, ap next_of item.next.is) }

pub returns-in-EndPardo-clause-does : goal.returns-in-EndPardo-clause-does
returns-in-EndPardo-clause-does c = λ rest own partials st is_led.
    let g = setting_of c.args.job.now in
    let i = c.instruction-instruction.result.now in
    let at_is = c.place.ensures g c.args.pool.now rest own partials st.local ∙ sym st.local.control.at in
    let has = subst (λ (n : ℕ). HasAt g.program n i) at_is c.instruction-instruction.ensures in
    let item = subst (λ (o : Operation). ItemOf g.program rest i.line o) c.in-EndPardo.is (item_is g c.args.local.now.control rest own i st.local.control has) in
    c.turn.ensures.does rest own partials st (ap next_of item.is)

pub returns-in-Pardo-clause-does : goal.returns-in-Pardo-clause-does
returns-in-Pardo-clause-does c = λ rest own partials st is_led.
    let g = setting_of c.args.job.now in
    let i = c.instruction-instruction.result.now in
    let at_is = c.place.ensures g c.args.pool.now rest own partials st.local ∙ sym st.local.control.at in
    let has = subst (λ (n : ℕ). HasAt g.program n i) at_is c.instruction-instruction.ensures in
    let item = subst (λ (o : Operation). ItemOf g.program rest i.line o) c.in-Pardo.is (item_is g c.args.local.now.control rest own i st.local.control has) in
    c.enter.ensures.does rest own partials st (ap next_of item.next.is)

pub returns-in_default : goal.returns-in_default
returns-in_default c = record {
  does = λ rest own partials st is_led.
      let g = setting_of c.args.job.now in
      let old = c.args.pool.now in
      let before = c.args.local.now in
      let was = c.args.self.now in
      let to : Led = control g rest own in
      let i = c.instruction-instruction.result.now in
      let at_is = c.place.ensures g old rest own partials st.local ∙ sym st.local.control.at in
      let has = subst (λ (n : ℕ). HasAt g.program n i) at_is c.instruction-instruction.ensures in
      let says = says_is g before.control rest own i st.local.control has in
      let is_control : next_of rest ≡ next.Control = only-control g.program rest i says (λ indices end_at is. c.in_default.not-Pardo indices end_at is) (λ head is. c.in_default.not-EndPardo head is) is_led in
      let led = c.go.ensures.does rest own partials st.local (subst IsControl (sym is_control) tt) in
      let same : TurnsAre (turns_of rest) to = subst (λ (t : Task). TaskTurns t (turns_of rest) to) is_control (control-turns g rest own) in
      let are : TurnsAre was to = subst (λ (ts : List ℕ). TurnsAre ts to) (sym st.turns_are) same in
      subst (λ (r : Result (Unit {0}) Halt). GoesAlone g old c.go.new.pool before c.go.new.self was was partials to r) (sym c.halting.ensures)
      (goes-alone g old c.go.new.pool before c.go.new.self was was partials to c.go.result are (λ trap halts. refl) led);
  leaves = c.go.ensures.leaves;
}
