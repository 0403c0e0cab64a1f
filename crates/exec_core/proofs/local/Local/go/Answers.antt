use Rattle.std.proofs.Common.{◌<◌, ℕ, List, Option, length, sym, ap, ◌∙◌, subst}
use Rattle.sip_setting.specs.Seen.{setting_of}
use Rattle.sip_tables.specs.declared.instruction.Operation.{Operation}
use Rattle.sip_tables.specs.Flatten.{flatten}
use Rattle.sial_meaning.specs.Control.{control}
use Rattle.sial_meaning.specs.Next.{next_of}
use Rattle.block_seats.specs.Leaving.{Leaves}
use Rattle.block_seats.proofs.LeavingLemmas.{leaves-refl}
use Rattle.code_places.specs.Items.{ItemOf}
use Rattle.code_places.specs.Standing.{HasAt}
use Rattle.exec_control.specs.Needs.{MayGo}
use Rattle.exec_control.specs.Position.{Position}
use Rattle.exec_control.proofs.StandLemmas.{at_in_code, item_is}
use Rattle.exec_core.specs.Moves.{GoesOn}
use Rattle.exec_core.specs.Parts.{Parts}
use Rattle.exec_core.specs.Stands.{LocalStands}
use Rattle.exec_core.proofs.PardoLemmas.{not_entering}
use Rattle.exec_core.proofs.StandLemmas.{may_go_on, says_is}
use Rattle.exec_core.proofs.StepLemmas.{led_on}
use Rattle.exec_core.proofs.local.Local.go.Goals as goal

pub instruction-instruction-requires : goal.instruction-instruction-requires
instruction-instruction-requires c =
    let g = setting_of c.args.job.now in
    let w = c.requires.at_work in
    subst (λ (n : ℕ). n < length (flatten g.program).code) (sym (c.at.ensures ∙ ap (λ (l : Parts). l.control.at) c.self.view_is))
    (at_in_code g c.args.self.now.control w.rest w.own w.stands.control)

pub go-requires : goal.go-requires
go-requires c = record {
  may_go =
      subst (λ (q : Position). MayGo (setting_of c.args.job.now) q) (sym (ap (λ (l : Parts). l.control) c.self.view_is))
      (may_go_on (setting_of c.args.job.now) c.args.pool.now c.args.self.now c.spaces-spaces.ensures.sound c.requires.at_work);
}

pub returns-in-Pardo-clause-does : goal.returns-in-Pardo-clause-does
returns-in-Pardo-clause-does c = λ rest own partials st is_control.
    let g = setting_of c.args.job.now in
    let i = c.instruction-instruction.result.now in
    let has = subst (λ (n : ℕ). HasAt g.program n i) (c.at.ensures ∙ ap (λ (l : Parts). l.control.at) c.self.view_is) c.instruction-instruction.ensures in
    let item = subst (λ (o : Operation). ItemOf g.program rest i.line o) c.in-Pardo.is (item_is g c.args.self.now.control rest own i st.control has) in
    c.enter.ensures.does rest own partials st (ap next_of item.next.is)

pub returns-in_default : goal.returns-in_default
returns-in_default c = record {
  does = λ rest own partials st is_control.
      let g = setting_of c.args.job.now in
      let p = c.args.pool.now in
      let i = c.instruction-instruction.result.now in
      let l : Parts = record { control = c.self.inside.control; scalars = c.self.inside.scalars; blocks = c.self.inside.blocks; created = c.self.inside.created.items } in
      let here : LocalStands g p l rest own partials = subst (λ (q : Parts). LocalStands g p q rest own partials) (sym c.self.view_is) st in
      let has = subst (λ (n : ℕ). HasAt g.program n i) c.at.ensures c.instruction-instruction.ensures in
      let led = c.go.ensures.does rest own here.control (sym here.scalars.scalars) is_control in
      let same = not_entering g rest i own (says_is g l.control rest own i here.control has) (λ indices end_at is. c.in_default.not-Pardo indices end_at is) is_control in
      subst (λ (q : Parts). GoesOn g p p q (record l { control = c.go.new.self }) partials (control g rest own) c.go.result) c.self.view_is
      (led_on g p l c.go.new.self rest own partials (next_of rest) (control g rest own) c.go.result here same led);
  leaves =
      subst (λ (xs : List (Option ℕ)). Leaves c.args.pool.now c.args.pool.now xs c.self.inside.blocks.seats.slots) (ap (λ (l : Parts). l.blocks.seats.slots) c.self.view_is)
      (leaves-refl c.self.inside.blocks.seats.slots);
}
