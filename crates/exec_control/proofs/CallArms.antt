-- Control at calls and their ends: it becomes what the definitions make of it.
use Rattle.std.proofs.Common.{◌≡◌, ℕ, ◌+◌, ◌^◌, ◌<◌, List, [], ◌∷◌, ◌++◌, length, replicate, Bool, true, false, nat_lt, Ok, refl, sym, ap, ◌∙◌, subst, arith}
use Rattle.std.proofs.lemmas.List.{length-replicate}
use Rattle.sial_syntax.specs.Numbering.{sizes, entry_of}
use Rattle.sial_syntax.specs.Tree as tree
use Rattle.sial_syntax.specs.Tree.{Block}
use Rattle.sial_meaning.specs.Control.{Goes, control, called}
use Rattle.sial_meaning.specs.Meaning.{call_depth}
use Rattle.sial_meaning.specs.Next as next
use Rattle.sial_meaning.specs.Next.{Task, next_of}
use Rattle.sial_meaning.specs.Own.{Own, none_bound, with_values}
use Rattle.sial_meaning.specs.Rest.{Rest, Next, Back, place, push, depth}
use Rattle.sial_meaning.specs.Setting.{Setting, procedure_body}
use Rattle.code_places.specs.Follows.{return_places, saved_values}
use Rattle.code_places.specs.Items.{IsCall, IsBack}
use Rattle.code_places.proofs.Pushing.{place_push, returns_push, values_push}
use Rattle.exec_control.specs.Moves as moves
use Rattle.exec_control.specs.Moves.{IsBranched, bound_at, begun, left, moved}
use Rattle.exec_control.specs.Position.{Position}
use Rattle.exec_control.specs.Stands.{ControlStands, IsLed}
use Rattle.exec_control.proofs.NestLemmas.{lasts_push}
use Rattle.exec_control.proofs.StandLemmas.{Shows, stands_by, returns_counted, snoc_same}
use Rattle.exec_control.proofs.LedLemmas.{by_rest, held_is, moved_arm}

-- a call, made or passed
called_arm : (g : Setting) (old c : Position) (more_left : Bool) (at line procedure entry : ℕ) (more : Rest) (own : Own) → ControlStands g old (Next at line (tree.Call procedure) more) own → nat_lt (depth more) call_depth ≡ more_left
    → place more ≡ at + 1 → entry ≡ entry_of g.program procedure
    → (more_left ≡ false → old.at + 1 < 2 ^ 32 → c ≡ moved (old.at + 1) old) → (more_left ≡ true → old.at + 1 < 2 ^ 32 → c ≡ moves.called entry old) → old.at + 1 < 2 ^ 32
    → IsLed g old c next.Control own (called g more_left procedure more own) (Ok tt)
called_arm g old c true at line procedure entry more own st is behind entry_is deep made below =
    let call = Next at line (tree.Call procedure) more in
    let body = procedure_body g procedure in
    let begin = entry_of g.program procedure in
    let back = Back (begin + sizes body) own.values more in
    let to = push begin body back in
    let held = none_bound own in
    let led : control g call own ≡ Goes to held = ap (λ (b : Bool). called g b procedure more own) is in
    let c_is = made refl below in
    let shows : Shows c to held = subst (λ (p : Position). Shows p to held) (sym c_is) (record {
      at = entry_is ∙ sym (place_push begin body back refl);
      values = ap (λ (v : List ℕ). replicate (length v) 0) st.values;
      returns = ap (λ (r : List ℕ). r ++ (old.at + 1) ∷ []) st.returns ∙ (ap (λ (n : ℕ). return_places more ++ n ∷ []) (ap (λ (n : ℕ). n + 1) st.at ∙ sym behind) ∙ sym (returns_push begin body back));
      saved = ap (λ (s : List (List ℕ)). s ++ old.values ∷ []) st.saved ∙ (ap (λ (v : List ℕ). saved_values more ++ v ∷ []) st.values ∙ sym (values_push begin body back));
      lasts = st.lasts ∙ sym (lasts_push begin body back);
    }) in
    let long : length c.values ≡ length old.values = ap (λ (p : Position). length p.values) c_is ∙ length-replicate (length old.values) 0 in
    (refl, stands_by g old c call to own held st led shows long, held_is c own (replicate (length own.values) 0) shows.values)
called_arm g old c false at line procedure entry more own st is behind entry_is deep made below =
    let call = Next at line (tree.Call procedure) more in
    let led : control g call own ≡ Goes more own = ap (λ (b : Bool). called g b procedure more own) is in
    let here : old.at + 1 ≡ place more = omega (arith, behind, st.at) in
    let both = moved_arm g old c call more own st led (deep refl below ∙ ap (λ (n : ℕ). moved n old) here) refl refl refl in
    (refl, both.0, both.1)

-- a call
pub call_arm : (g : Setting) (old c : Position) (rest : Rest) (own : Own) (line procedure entry : ℕ) → ControlStands g old rest own → IsCall g.program rest line procedure entry → old.at + 1 < 2 ^ 32
    → (nat_lt (length old.returns) 16 ≡ false → old.at + 1 < 2 ^ 32 → c ≡ moved (old.at + 1) old) → (nat_lt (length old.returns) 16 ≡ true → old.at + 1 < 2 ^ 32 → c ≡ moves.called entry old)
    → IsLed g old c (next_of rest) own (control g rest own) (Ok tt)
call_arm g old c rest own line procedure entry st call below deep made =
    by_rest g old c rest (Next (place rest) line (tree.Call procedure) call.more) own (Ok tt) call.next.is st
    (λ stands.
    let count : nat_lt (length old.returns) 16 ≡ nat_lt (depth call.more) call_depth = ap (λ (n : ℕ). nat_lt n 16) (returns_counted g old (Next (place rest) line (tree.Call procedure) call.more) own stands) in
    called_arm g old c (nat_lt (depth call.more) call_depth) (place rest) line procedure entry call.more own stands refl call.next.behind call.entry_is
    (λ is. deep (count ∙ is)) (λ is. made (count ∙ is)) below)

-- the end of a call
pub back_arm : (g : Setting) (old c : Position) (rest : Rest) (own : Own) → ControlStands g old rest own → IsBack g.program rest
    → old.returns ≡ c.returns ++ c.at ∷ [] → old.saved ≡ c.saved ++ c.values ∷ [] → length c.values ≡ length old.values → c.lasts ≡ old.lasts
    → IsLed g old c (next_of rest) own (control g rest own) (Ok tt)
back_arm g old c rest own st back returns_are saved_are long lasts_are =
    by_rest g old c rest (Back (place rest) back.values back.more) own (Ok tt) back.is st
    (λ stands.
    let place_is = snoc_same c.returns (return_places back.more) c.at (place back.more) (sym returns_are ∙ stands.returns) in
    let values_are = snoc_same c.saved (saved_values back.more) c.values back.values (sym saved_are ∙ stands.saved) in
    let shows : Shows c back.more (with_values back.values own) = record { at = place_is.1; values = values_are.1; returns = place_is.0; saved = values_are.0; lasts = lasts_are ∙ stands.lasts } in
    (refl, stands_by g old c (Back (place rest) back.values back.more) back.more own (with_values back.values own) stands refl shows long, held_is c own back.values shows.values))
