use Rattle.std.proofs.Common.{◌<◌, ℕ, Ok, length, refl, sym, ap, ◌∙◌, subst}
use Rattle.sip_setting.specs.Seen.{setting_of}
use Rattle.sip_tables.specs.declared.instruction.Operation.{Operation}
use Rattle.sip_tables.specs.Flatten.{flatten}
use Rattle.sial_meaning.specs.Next.{Task, next_of}
use Rattle.code_places.specs.Items.{ItemOf}
use Rattle.code_places.specs.Standing.{HasAt}
use Rattle.exec_control.proofs.StandLemmas.{at_in_code, item_is}
use Rattle.exec_core.specs.declared.printed.Printed.TheVariants.{Text}
use Rattle.exec_core.specs.Parts.{Parts}
use Rattle.exec_core.specs.Printing.{Does}
use Rattle.exec_core.specs.Stands.{LocalStands}
use Rattle.exec_core.proofs.PrintLemmas.{passed_next, text_printed}
use Rattle.exec_core.proofs.SendingLemmas.{printing_told}
use Rattle.exec_core.proofs.StandLemmas.{says_at}
use Rattle.exec_core.proofs.local.Local.print.Goals as goal

pub instruction-instruction-requires : goal.instruction-instruction-requires
instruction-instruction-requires c =
    let g = setting_of c.args.job.now in
    let w = c.requires.prints.1 in
    subst (λ (n : ℕ). n < length (flatten g.program).code) (sym (c.at.ensures ∙ ap (λ (l : Parts). l.control.at) c.self.view_is))
    (at_in_code g c.args.self.now.control w.rest w.own w.stands.control)

pub unreachable-requires : goal.unreachable-requires
unreachable-requires c =
    let g = setting_of c.args.job.now in
    let w = c.requires.prints.1 in
    let i = c.instruction-instruction.result.now in
    let says = says_at g c.args.self.now w.rest w.own i c.at.result w.stands.control (c.at.ensures ∙ ap (λ (q : Parts). q.control.at) c.self.view_is) c.instruction-instruction.ensures in
    printing_told g w.rest i says c.requires.prints.2 c.in_default.not-Print c.in_default.not-PrintScalar

pub returns-in-Print : goal.returns-in-Print
returns-in-Print c = λ p values rest own partials st.
    let g = setting_of c.args.job.now in
    let i = c.instruction-instruction.result.now in
    let l : Parts = record { control = c.self.inside.control; scalars = c.self.inside.scalars; blocks = c.self.inside.blocks; created = c.self.inside.created.items } in
    let here : LocalStands g p l rest own partials = subst (λ (q : Parts). LocalStands g p q rest own partials) (sym c.self.view_is) st in
    let has = subst (λ (n : ℕ). HasAt g.program n i) c.at.ensures c.instruction-instruction.ensures in
    let item = subst (λ (o : Operation). ItemOf g.program rest i.line o) c.in-Print.is (item_is g l.control rest own i here.control has) in
    let comes = ap next_of item.next.is in
    let past = passed_next g p l rest item.more own partials c.pass.new.self _ _ here comes (c.pass.ensures.passes g rest own own here.control refl) in
    subst (λ (t : Task). Does g p c.args.self.now (record l { control = c.pass.new.self }) own partials values (Ok (Text c.in-Print.text)) t) (sym comes)
    (text_printed g p c.args.self.now (record l { control = c.pass.new.self }) i.line c.in-Print.text item.more own partials item.printed values item.text_is past)

pub returns-in-PrintScalar : goal.returns-in-PrintScalar
returns-in-PrintScalar c = λ p values rest own partials st.
    let g = setting_of c.args.job.now in
    let i = c.instruction-instruction.result.now in
    let has = subst (λ (n : ℕ). HasAt g.program n i) (c.at.ensures ∙ ap (λ (l : Parts). l.control.at) c.self.view_is) c.instruction-instruction.ensures in
    let item = subst (λ (o : Operation). ItemOf g.program rest i.line o) c.in-PrintScalar.is (item_is g c.args.self.now.control rest own i st.control has) in
    let comes = ap next_of item.next.is in
    subst (λ (t : Task). Does g p c.args.self.now c.print_scalar.new.self own partials values c.print_scalar.result t) (sym comes)
    (c.print_scalar.ensures g p values item.more rest own partials st comes)
