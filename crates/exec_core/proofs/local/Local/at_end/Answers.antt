use Rattle.std.proofs.Common.{◌<◌, ℕ, length, sym, ap, ◌∙◌, subst}
use Rattle.sip_setting.specs.Seen.{setting_of}
use Rattle.sip_tables.specs.declared.instruction.Operation.{Operation}
use Rattle.sip_tables.specs.Flatten.{flatten}
use Rattle.code_places.specs.Items.{ItemOf}
use Rattle.code_places.specs.Standing.{HasAt}
use Rattle.exec_control.proofs.StandLemmas.{at_in_code, item_is}
use Rattle.exec_core.specs.Parts.{Parts}
use Rattle.exec_core.specs.Stands.{is_over}
use Rattle.exec_core.proofs.local.Local.at_end.Goals as goal

pub instruction-instruction-requires : goal.instruction-instruction-requires
instruction-instruction-requires c =
    let g = setting_of c.args.job.now in
    let w = c.requires in
    subst (λ (n : ℕ). n < length (flatten g.program).code) (sym (c.at.ensures ∙ ap (λ (l : Parts). l.control.at) c.self.view_is))
    (at_in_code g c.args.self.now.control w.rest w.own w.stands)

pub returns-in-Stop : goal.returns-in-Stop
returns-in-Stop c = λ p rest own partials st.
    let g = setting_of c.args.job.now in
    let i = c.instruction-instruction.result.now in
    let has = subst (λ (n : ℕ). HasAt g.program n i) (c.at.ensures ∙ ap (λ (l : Parts). l.control.at) c.self.view_is) c.instruction-instruction.ensures in
    let item = subst (λ (o : Operation). ItemOf g.program rest i.line o) c.in-Stop.is (item_is g c.args.self.now.control rest own i st.control has) in
    sym (ap is_over item)
