use Rattle.std.proofs.Common.{refl, sym, subst}
use Rattle.sial_meaning.specs.Next.{next_of}
use Rattle.exec_core.specs.Parts.{Parts}
use Rattle.exec_core.specs.Stands.{LocalStands}
use Rattle.exec_core.proofs.StepLemmas.{passed_on}
use Rattle.exec_core.proofs.local.Local.pass.Goals as goal

pub returns : goal.returns
returns c = λ g p rest own partials st.
    let l : Parts = record { control = c.self.inside.control; scalars = c.self.inside.scalars; blocks = c.self.inside.blocks; created = c.self.inside.created.items } in
    let here : LocalStands g p l rest own partials = subst (λ (q : Parts). LocalStands g p q rest own partials) (sym c.self.view_is) st in
    passed_on g p l rest own partials c.pass.new.self (next_of rest) here (c.pass.ensures.passes g rest own own here.control refl)
