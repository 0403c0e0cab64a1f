-- Control at branches, their ends, and the heads of pardos: it becomes what the definitions make of it.
use Rattle.std.proofs.Common.{◌≡◌, ◌⊎◌, inl, inr, ℕ, ◌+◌, ◌^◌, ◌<◌, List, length, Bool, true, false, Result, Ok, Err, refl, sym, ap, ◌∙◌, subst, arith}
use Rattle.sial_syntax.specs.declared.condition.Cond.{Cond}
use Rattle.sial_syntax.specs.Numbering.{sizes}
use Rattle.sial_syntax.specs.Tree as tree
use Rattle.sial_syntax.specs.Tree.{Block}
use Rattle.sial_meaning.specs.declared.trap.Trap.{Trap}
use Rattle.sial_meaning.specs.Control.{control, pardo_at, branched}
use Rattle.sial_meaning.specs.LocalStep.{Answer}
use Rattle.sial_meaning.specs.Meaning.{condition}
use Rattle.sial_meaning.specs.Next as next
use Rattle.sial_meaning.specs.Next.{Task, next_of}
use Rattle.sial_meaning.specs.Own.{Own, unset}
use Rattle.sial_meaning.specs.Rest.{Rest, Next, Join, Within, place, push}
use Rattle.sial_meaning.specs.Setting.{Setting}
use Rattle.code_places.specs.Follows.{return_places, saved_values}
use Rattle.code_places.specs.Items.{IsHead, IsElse, IsJoin, IsPardo}
use Rattle.code_places.proofs.Pushing.{place_push, returns_push, values_push}
use Rattle.exec_control.specs.Depth.{lasts_of}
use Rattle.exec_control.specs.Moves.{IsBranched, moved}
use Rattle.exec_control.specs.Position.{Position}
use Rattle.exec_control.specs.Stands.{ControlStands, IsLed}
use Rattle.exec_control.proofs.NestLemmas.{lasts_push}
use Rattle.exec_control.proofs.StandLemmas.{Shows, stands_by, led_short}
use Rattle.exec_control.proofs.LedLemmas.{by_rest, held_is, moved_arm}

-- a branch by its condition
branched_arm : (g : Setting) (old c : Position) (rest met unmet : Rest) (own : Own) (line otherwise : ℕ) (answer : Answer Bool) (result : Result (Unit {0}) Trap) → ControlStands g old rest own
    → control g rest own ≡ branched line answer met unmet own → place met ≡ place rest + 1 → otherwise ≡ place unmet
    → return_places rest ≡ return_places met → saved_values rest ≡ saved_values met → lasts_of rest ≡ lasts_of met
    → return_places rest ≡ return_places unmet → saved_values rest ≡ saved_values unmet → lasts_of rest ≡ lasts_of unmet
    → IsBranched old c line otherwise answer result → IsLed g old c next.Control own (branched line answer met unmet own) result
branched_arm g old c rest met unmet own line otherwise (Ok true) result st led met_is unmet_is mr ms ml ur us ul is =
    let below = led_short g old rest met own own st led in
    let here : old.at + 1 ≡ place met = omega (arith, met_is, st.at) in
    let c_is = is.1 (omega (arith, below, here)) ∙ ap (λ (n : ℕ). moved n old) here in
    let both = moved_arm g old c rest met own st led c_is mr ms ml in
    (is.0, both.0, both.1)
branched_arm g old c rest met unmet own line otherwise (Ok false) result st led met_is unmet_is mr ms ml ur us ul is =
    let both = moved_arm g old c rest unmet own st led (is.1 ∙ ap (λ (n : ℕ). moved n old) unmet_is) ur us ul in
    (is.0, both.0, both.1)
branched_arm g old c rest met unmet own line otherwise (Err kind) result st led met_is unmet_is mr ms ml ur us ul is = is

-- an `if` without `else`
if_arm : (g : Setting) (old c : Position) (rest : Rest) (own : Own) (line otherwise : ℕ) (cond : Cond) (result : Result (Unit {0}) Trap) → ControlStands g old rest own → IsHead g.program rest line (tree.If cond) otherwise
    → IsBranched old c line otherwise (condition own cond) result → IsLed g old c (next_of rest) own (control g rest own) result
if_arm g old c rest own line otherwise cond result st head is =
    let at = place rest in
    let join = Join (at + 1 + sizes head.body) head.more in
    by_rest g old c rest (Next at line (tree.If cond head.body) head.more) own result head.next.is st
    (λ stands.
    branched_arm g old c (Next at line (tree.If cond head.body) head.more) (push (at + 1) head.body join) head.more own line otherwise (condition own cond) result stands refl
    (place_push (at + 1) head.body join refl) head.past_is
    (sym (returns_push (at + 1) head.body join)) (sym (values_push (at + 1) head.body join)) (sym (lasts_push (at + 1) head.body join)) refl refl refl is)

-- an `if` with `else`
else_arm : (g : Setting) (old c : Position) (rest : Rest) (own : Own) (line otherwise : ℕ) (cond : Cond) (result : Result (Unit {0}) Trap) → ControlStands g old rest own → IsElse g.program rest line cond otherwise
    → IsBranched old c line otherwise (condition own cond) result → IsLed g old c (next_of rest) own (control g rest own) result
else_arm g old c rest own line otherwise cond result st head is =
    let at = place rest in
    let join = Join (at + 1 + sizes head.body) head.more in
    let other_join = Join (at + 2 + sizes head.body + sizes head.other) head.more in
    by_rest g old c rest (Next at line (tree.IfElse cond head.body head.other) head.more) own result head.next.is st
    (λ stands.
    branched_arm g old c (Next at line (tree.IfElse cond head.body head.other) head.more) (push (at + 1) head.body join) (push (at + 2 + sizes head.body) head.other other_join) own line otherwise (condition own cond) result stands refl
    (place_push (at + 1) head.body join refl) (head.otherwise_is ∙ sym (place_push (at + 2 + sizes head.body) head.other other_join refl))
    (sym (returns_push (at + 1) head.body join)) (sym (values_push (at + 1) head.body join)) (sym (lasts_push (at + 1) head.body join))
    (sym (returns_push (at + 2 + sizes head.body) head.other other_join)) (sym (values_push (at + 2 + sizes head.body) head.other other_join)) (sym (lasts_push (at + 2 + sizes head.body) head.other other_join)) is)

-- a branch
pub branch_arm : (g : Setting) (old c : Position) (rest : Rest) (own : Own) (line otherwise : ℕ) (cond : Cond) (result : Result (Unit {0}) Trap) → ControlStands g old rest own
    → IsHead g.program rest line (tree.If cond) otherwise ⊎ IsElse g.program rest line cond otherwise
    → IsBranched old c line otherwise (condition own cond) result → IsLed g old c (next_of rest) own (control g rest own) result
branch_arm g old c rest own line otherwise cond result st (inl head) is = if_arm g old c rest own line otherwise cond result st head is
branch_arm g old c rest own line otherwise cond result st (inr head) is = else_arm g old c rest own line otherwise cond result st head is

-- the end of a branch
pub join_arm : (g : Setting) (old c : Position) (rest : Rest) (own : Own) (to : ℕ) → ControlStands g old rest own → IsJoin g.program rest to → (to < 2 ^ 32 → c ≡ moved to old)
    → IsLed g old c (next_of rest) own (control g rest own) (Ok tt)
join_arm g old c rest own to st join is =
    by_rest g old c rest (Join (place rest) join.more) own (Ok tt) join.is st
    (λ stands.
    let below = led_short g old (Join (place rest) join.more) join.more own own stands refl in
    let both = moved_arm g old c (Join (place rest) join.more) join.more own stands refl (is (omega (arith, below, join.behind)) ∙ ap (λ (n : ℕ). moved n old) (sym join.behind)) refl refl refl in
    (refl, both.0, both.1))

-- the head of a pardo
pub pardo_arm : (g : Setting) (old c : Position) (rest : Rest) (own : Own) (line end_at : ℕ) (indices : List ℕ) → ControlStands g old rest own → IsPardo g.program rest line indices end_at → c ≡ moved end_at old
    → IsLed g old c (next_of rest) own (control g rest own) (Ok tt)
pardo_arm g old c rest own line end_at indices st pardo is =
    let pardo_is = pardo_at (place rest) indices pardo.wheres pardo.body in
    let to = Within pardo_is 0 pardo.more in
    by_rest g old c rest (Next (place rest) line (tree.Pardo indices pardo.wheres pardo.body) pardo.more) own (Ok tt) pardo.next.is st
    (λ stands.
    let shows : Shows c to (unset g own) = subst (λ (p : Position). Shows p to (unset g own)) (sym is) (record { at = pardo.end_is; values = stands.values; returns = stands.returns; saved = stands.saved; lasts = stands.lasts }) in
    (refl, stands_by g old c (Next (place rest) line (tree.Pardo indices pardo.wheres pardo.body) pardo.more) to own (unset g own) stands refl shows (ap (λ (p : Position). length p.values) is), held_is c (unset g own) own.values shows.values))
