use Rattle.std.proofs.Common.{sym, ap, subst}
use Rattle.sip_setting.specs.Seen.{setting_of}
use Rattle.sial_meaning.specs.Rest.{Within}
use Rattle.exec_control.specs.Position.{Position}
use Rattle.exec_control.specs.Stands.{ControlStands}
use Rattle.exec_core.specs.Parts.{Parts}
use Rattle.exec_core.proofs.local.Local.tuples.Goals as goal

pub returns : goal.returns
returns c = λ p pardo last more own partials st.
    c.tuples.ensures pardo last more own
    (subst (λ (q : Position). ControlStands (setting_of c.args.job.now) q (Within pardo last more) own) (sym (ap (λ (l : Parts). l.control) c.self.view_is)) st.control)
