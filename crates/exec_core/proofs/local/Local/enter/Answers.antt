use Rattle.std.proofs.Common.{◌∙◌, sym, ap, subst}
use Rattle.sip_setting.specs.Seen.{setting_of}
use Rattle.sial_meaning.specs.Control.{control}
use Rattle.sial_meaning.specs.Next.{next_of}
use Rattle.exec_control.specs.Position.{Position}
use Rattle.exec_control.specs.Stands.{IsControl, IsLed}
use Rattle.exec_core.specs.Parts.{Parts}
use Rattle.exec_core.specs.Stands.{LocalStands}
use Rattle.exec_core.proofs.PardoLemmas.{pardo_goes}
use Rattle.exec_core.proofs.StepLemmas.{entered_on}
use Rattle.exec_core.proofs.local.Local.enter.Goals as goal

pub returns-clause-does : goal.returns-clause-does
returns-clause-does c = λ rest own partials st pardo.
    let g = setting_of c.args.job.now in
    let l : Parts = record { control = c.self.inside.control; scalars = c.self.inside.scalars; blocks = c.self.inside.blocks; created = c.self.inside.created.items } in
    let here : LocalStands g c.args.pool.now l rest own partials = subst (λ (q : Parts). LocalStands g c.args.pool.now q rest own partials) (sym c.self.view_is) st in
    let led = c.go-entered.ensures.does rest own here.control (sym here.scalars.scalars) (subst IsControl (sym pardo) tt) in
    let after = c.unset.new.self in
    let same = c.unset.ensures.same in
    let from = subst (λ (q : Position). IsLed g q c.go-entered.new.self (next_of rest) own (control g rest own) c.go-entered.result) (ap (λ (q : Parts). q.control) c.self.view_is) led in
    let to = subst (λ (q : Position). IsLed g c.args.self.now.control q (next_of rest) own (control g rest own) c.go-entered.result) (sym (ap (λ (q : Parts). q.control) same)) from in
    entered_on g c.args.pool.now c.unset.new.pool c.args.self.now after own partials (next_of rest) (control g rest own) c.go-entered.result pardo (pardo_goes g rest own pardo) to
    (c.unset.ensures.scalars own partials here.scalars) c.unset.ensures.seated (c.unset.ensures.blocks own here.blocks) (ap (λ (q : Parts). q.created) same ∙ here.created)
