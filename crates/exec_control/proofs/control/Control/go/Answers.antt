use Rattle.std.proofs.Common.{ℕ, sym, ap, subst}
use Rattle.sip_tables.specs.declared.instruction.Operation.{Operation}
use Rattle.sip_tables.specs.Flatten.{flatten}
use Rattle.sip_setting.specs.Seen.{setting_of}
use Rattle.code_places.specs.Items.{ItemOf}
use Rattle.code_places.specs.Standing.{HasAt}
use Rattle.exec_control.specs.Position.{Position}
use Rattle.exec_control.proofs.BranchArms.{branch_arm}
use Rattle.exec_control.proofs.StandLemmas.{at_in_code, item_is}
use Rattle.exec_control.proofs.control.Control.go.Goals as goal
use Rattle.std.proofs.Common.{◌<◌, length}

pub instruction-instruction-requires : goal.instruction-instruction-requires
instruction-instruction-requires c =
    let m = c.requires.may_go in
    subst (λ (n : ℕ). n < length (flatten (setting_of c.args.job.now).program).code) (sym (ap (λ (q : Position). q.at) c.self.view_is))
    (at_in_code (setting_of c.args.job.now) c.args.self.now m.rest m.own m.stands)

pub returns-in-If : goal.returns-in-If
returns-in-If c = record {
  does = λ rest own st scalars is_control.
      let g = setting_of c.args.job.now in
      let i = c.instruction-instruction.result.now in
      let has = subst (λ (n : ℕ). HasAt g.program n i) (ap (λ (q : Position). q.at) c.self.view_is) c.instruction-instruction.ensures in
      let item = subst (λ (o : Operation). ItemOf g.program rest i.line o) c.in-If.is (item_is g c.args.self.now rest own i st has) in
      branch_arm g c.args.self.now c.branch-self.new.self rest own i.line c.in-If.otherwise c.in-If.cond c.branch-self.result st item (c.branch-self.ensures own scalars (sym st.values));
}
