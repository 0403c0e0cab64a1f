use Rattle.std.proofs.Common.{List, ℕ, Option, None, slice_index_or, refl, sym, ap, ◌∙◌, subst}
use Rattle.exec_core.specs.Parts.{Parts}
use Rattle.exec_core.specs.Stands.{LocalStands}
use Rattle.exec_core.proofs.PrintLemmas.{passed_next, scalar_printed, scalar_unset}
use Rattle.exec_core.proofs.local.Local.print_scalar.Goals as goal

pub returns-in-Some : goal.returns-in-Some
returns-in-Some c = λ g p values more rest own partials st comes.
    let l : Parts = record { control = c.self.inside.control; scalars = c.self.inside.scalars; blocks = c.self.inside.blocks; created = c.self.inside.created.items } in
    let here : LocalStands g p l rest own partials = subst (λ (q : Parts). LocalStands g p q rest own partials) (sym c.self.view_is) st in
    let is = ap (λ (xs : List (Option ℕ)). slice_index_or xs c.args.scalar None) (sym here.scalars.scalars) ∙ (sym c.get.ensures ∙ c.in-Some.is) in
    scalar_printed g p c.args.self.now (record l { control = c.pass.new.self }) c.args.line c.args.scalar c.in-Some.value more own partials values is
    (passed_next g p l rest more own partials c.pass.new.self _ _ here comes (c.pass.ensures.passes g rest own own here.control refl))

pub returns-in-None : goal.returns-in-None
returns-in-None c = λ g p values more rest own partials st comes.
    let l : Parts = record { control = c.self.inside.control; scalars = c.self.inside.scalars; blocks = c.self.inside.blocks; created = c.self.inside.created.items } in
    let here : LocalStands g p l rest own partials = subst (λ (q : Parts). LocalStands g p q rest own partials) (sym c.self.view_is) st in
    let is = ap (λ (xs : List (Option ℕ)). slice_index_or xs c.args.scalar None) (sym here.scalars.scalars) ∙ (sym c.get.ensures ∙ c.in-None.is) in
    scalar_unset g p c.args.self.now c.args.self.now c.args.line c.args.scalar more own partials values is refl
