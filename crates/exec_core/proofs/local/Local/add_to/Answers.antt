use Rattle.std.proofs.Common.{ℕ, List, Option, Some, None, slice_index_or, slice_set, unwrap_or, sym, ap, ◌∙◌, subst}
use Rattle.sial_meaning.specs.Number.{plus}
use Rattle.sial_meaning.specs.Own.{scalar_of}
use Rattle.exec_core.specs.Parts.{Parts}
use Rattle.exec_core.specs.Stands.{LocalStands}
use Rattle.exec_core.proofs.StandLemmas.{scalar_set}
use Rattle.exec_core.proofs.local.Local.add_to.Goals as goal

pub returns : goal.returns
returns c = λ g p rest own partials st.
    let l : Parts = record { control = c.self.inside.control; scalars = c.self.inside.scalars; blocks = c.self.inside.blocks; created = c.self.inside.created.items } in
    let here : LocalStands g p l rest own partials = subst (λ (q : Parts). LocalStands g p q rest own partials) (sym c.self.view_is) st in
    let s = c.args.scalar in
    let old_is = c.unwrap_or-old.ensures ∙ ap (λ (o : Option ℕ). unwrap_or o 0) (c.get.ensures ∙ ap (λ (xs : List (Option ℕ)). slice_index_or xs s None) here.scalars.scalars) in
    scalar_set g p l rest own partials c.set.new.self s (plus (unwrap_or (scalar_of own s) 0) c.args.number) here
    (c.set.ensures ∙ ap (λ (x : ℕ). record l.scalars { scalars = slice_set l.scalars.scalars s (Some (plus x c.args.number)) }) old_is)
