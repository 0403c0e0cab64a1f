use Rattle.std.proofs.Common.{◌∙◌, sym, ap, subst}
use Rattle.sip_setting.specs.Seen.{setting_of}
use Rattle.sial_meaning.specs.Meaning.{left}
use Rattle.sial_meaning.specs.Own.{unset}
use Rattle.sial_meaning.specs.Rest.{Within}
use Rattle.exec_blocks.specs.Kept.{Kept}
use Rattle.exec_blocks.specs.Standing.{AreIn, BlocksStand}
use Rattle.exec_control.specs.Position.{Position}
use Rattle.exec_control.specs.Stands.{ControlStands}
use Rattle.exec_scalars.specs.Numbers.{Numbers, AreNumbers}
use Rattle.exec_core.specs.Parts.{Parts}
use Rattle.exec_core.proofs.StandLemmas.{stands_with}
use Rattle.exec_core.proofs.local.Local.leave.Goals as goal

pub returns-clause-does : goal.returns-clause-does
returns-clause-does c = λ pardo last more own partials st.
    let g = setting_of c.args.job.now in
    let pool = c.unset.new.pool in
    let seen = c.self.view_is in
    let same = c.unset.ensures.same in
    let l : Parts = record { control = c.leave.new.self; scalars = c.self.inside.scalars; blocks = c.self.inside.blocks; created = c.self.inside.created.items } in
    let control_is = ap (λ (q : Parts). q.control) (seen ∙ same) in
    let left_is = c.leave.ensures.does pardo last more own (subst (λ (q : Position). ControlStands g q (Within pardo last more) own) (sym control_is) st.control) in
    stands_with g pool l more (unset g own) (left g pardo.indices own) partials c.leave.new.self.values left_is.1 left_is.0
    (subst (λ (n : Numbers). AreNumbers n (unset g own) partials) (sym (ap (λ (q : Parts). q.scalars) seen)) (c.unset.ensures.scalars own partials st.scalars))
    (subst (λ (b : Kept). AreIn g pool b) (sym (ap (λ (q : Parts). q.blocks) seen)) c.unset.ensures.seated)
    (subst (λ (b : Kept). BlocksStand g pool b (unset g own)) (sym (ap (λ (q : Parts). q.blocks) seen)) (c.unset.ensures.blocks own st.blocks))
    (ap (λ (q : Parts). q.created) (seen ∙ same) ∙ st.created)
