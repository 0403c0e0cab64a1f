-- Control that goes where the definitions lead it, from work that is the same, and where nothing else changes.
use Rattle.std.proofs.Common.{◌≡◌, ℕ, List, length, Result, refl, sym, ap, ◌∙◌, subst}
use Rattle.sial_meaning.specs.declared.trap.Trap.{Trap}
use Rattle.sial_meaning.specs.Control.{Goes, control}
use Rattle.sial_meaning.specs.Next.{next_of}
use Rattle.sial_meaning.specs.Own.{Own, with_values}
use Rattle.sial_meaning.specs.Rest.{Rest, place}
use Rattle.sial_meaning.specs.Setting.{Setting}
use Rattle.code_places.specs.Follows.{return_places, saved_values}
use Rattle.exec_control.specs.Depth.{lasts_of}
use Rattle.exec_control.specs.Moves.{moved}
use Rattle.exec_control.specs.Position.{Position}
use Rattle.exec_control.specs.Stands.{ControlStands, IsLed}
use Rattle.exec_control.proofs.StandLemmas.{Shows, stands_by}

-- index numbers that control shows are those that the worker holds
pub held_is : (c : Position) (own : Own) (values : List ℕ) → c.values ≡ values → record own { values = values } ≡ with_values c.values own
held_is c own values is = ap (λ (v : List ℕ). with_values v own) (sym is)

-- control at another rest of the work that is the same
pub by_rest : (g : Setting) (old c : Position) (rest same : Rest) (own : Own) (result : Result (Unit {0}) Trap) → rest ≡ same → ControlStands g old rest own
    → (ControlStands g old same own → IsLed g old c (next_of same) own (control g same own) result) → IsLed g old c (next_of rest) own (control g rest own) result
by_rest g old c rest same own result is st arm =
    subst (λ (r : Rest). IsLed g old c (next_of r) own (control g r own) result) (sym is) (arm (subst (λ (r : Rest). ControlStands g old r own) is st))

-- control goes to where nothing else changes
pub moved_arm : (g : Setting) (old c : Position) (rest to : Rest) (own : Own) → ControlStands g old rest own → control g rest own ≡ Goes to own → c ≡ moved (place to) old
    → return_places rest ≡ return_places to → saved_values rest ≡ saved_values to → lasts_of rest ≡ lasts_of to → ControlStands g c to own × (own ≡ with_values c.values own)
moved_arm g old c rest to own st led is returns saved lasts =
    let shows : Shows c to own = subst (λ (p : Position). Shows p to own) (sym is) (record { at = refl; values = st.values; returns = st.returns ∙ returns; saved = st.saved ∙ saved; lasts = st.lasts ∙ lasts }) in
    (stands_by g old c rest to own own st led shows (ap (λ (p : Position). length p.values) is), held_is c own own.values shows.values)
