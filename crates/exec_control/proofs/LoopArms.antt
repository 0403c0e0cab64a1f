-- Control at loops and the ends of their bodies: it becomes what the definitions make of it.
use Rattle.std.proofs.Common.{◌≡◌, ℕ, zero, suc, ◌+◌, ◌^◌, ◌<◌, List, [], ◌∷◌, ◌++◌, length, get_or, set, Bool, true, false, nat_lt, Ok, refl, sym, ap, ◌∙◌, subst, arith}
use Rattle.std.proofs.lemmas.List.{length-set}
use Rattle.sial_syntax.specs.Numbering.{sizes}
use Rattle.sial_syntax.specs.Spaces.{first_of, count_of, pieces_of}
use Rattle.sial_syntax.specs.Tree as tree
use Rattle.sial_syntax.specs.Tree.{Block}
use Rattle.sial_meaning.specs.Control.{Goes, control, loop_at, entered, turned}
use Rattle.sial_meaning.specs.Next as next
use Rattle.sial_meaning.specs.Next.{Task, next_of}
use Rattle.sial_meaning.specs.Own.{Own, value_of, bound}
use Rattle.sial_meaning.specs.Rest.{LoopAt, Rest, Next, Turn, place, push}
use Rattle.sial_meaning.specs.Setting.{Setting}
use Rattle.code_places.specs.Follows.{LoopStands, return_places, saved_values}
use Rattle.code_places.specs.Items.{IsHead, IsTurn}
use Rattle.code_places.proofs.ControlLemmas.{loop_body}
use Rattle.code_places.proofs.Pushing.{place_push, returns_push, values_push}
use Rattle.exec_control.specs.Depth.{lasts_of}
use Rattle.exec_control.specs.Moves.{bound_at, begun, left}
use Rattle.exec_control.specs.Position.{Position, innermost}
use Rattle.exec_control.specs.Stands.{ControlStands, IsLed}
use Rattle.exec_control.proofs.NestLemmas.{lasts_push}
use Rattle.exec_control.proofs.StandLemmas.{Shows, stands_by, led_short, innermost_is, others_are}
use Rattle.exec_control.proofs.LedLemmas.{by_rest, held_is}

-- a loop entered or passed, from work that goes on behind it
entered_arm : (g : Setting) (old c : Position) (rest more : Rest) (own : Own) (loop : LoopAt) (first count past : ℕ) → ControlStands g old rest own → control g rest own ≡ entered loop first count more own
    → place rest ≡ loop.head → loop.at ≡ (loop.head + 1) + sizes loop.body → past ≡ place more → return_places rest ≡ return_places more → saved_values rest ≡ saved_values more → lasts_of rest ≡ lasts_of more
    → (count ≡ 0 → c ≡ bound_at past loop.index 0 old) → ((n : ℕ) → count ≡ suc n → old.at + 1 < 2 ^ 32 → c ≡ begun (old.at + 1) loop.index first (first + n) old)
    → IsLed g old c next.Control own (entered loop first count more own) (Ok tt)
entered_arm g old c rest more own loop first zero past st led at_is end_is past_is returns saved lasts none some =
    let is = none refl in
    let shows : Shows c more (bound loop.index 0 own) = subst (λ (p : Position). Shows p more (bound loop.index 0 own)) (sym is) (record {
      at = past_is;
      values = ap (λ (v : List ℕ). set v loop.index 0) st.values;
      returns = st.returns ∙ returns;
      saved = st.saved ∙ saved;
      lasts = st.lasts ∙ lasts;
    }) in
    let long : length c.values ≡ length old.values = ap (λ (p : Position). length p.values) is ∙ length-set old.values loop.index 0 in
    (refl, stands_by g old c rest more own (bound loop.index 0 own) st led shows long, held_is c own (set own.values loop.index 0) shows.values)
entered_arm g old c rest more own loop first (suc n) past st led at_is end_is past_is returns saved lasts none some =
    let turn = Turn loop (first + n) more in
    let to = push (loop.head + 1) loop.body turn in
    let held = bound loop.index first own in
    let place_is = place_push (loop.head + 1) loop.body turn end_is in
    let below = led_short g old rest to own held st led in
    let is = some n refl (omega (arith, below, place_is, at_is, st.at)) in
    let shows : Shows c to held = subst (λ (p : Position). Shows p to held) (sym is) (record {
      at = omega (arith, place_is, at_is, st.at);
      values = ap (λ (v : List ℕ). set v loop.index first) st.values;
      returns = st.returns ∙ (returns ∙ sym (returns_push (loop.head + 1) loop.body turn));
      saved = st.saved ∙ (saved ∙ sym (values_push (loop.head + 1) loop.body turn));
      lasts = ap (λ (ls : List ℕ). ls ++ (first + n) ∷ []) (st.lasts ∙ lasts) ∙ sym (lasts_push (loop.head + 1) loop.body turn);
    }) in
    let long : length c.values ≡ length old.values = ap (λ (p : Position). length p.values) is ∙ length-set old.values loop.index first in
    (refl, stands_by g old c rest to own held st led shows long, held_is c own (set own.values loop.index first) shows.values)

-- a loop over segments
pub do_arm : (g : Setting) (old c : Position) (rest : Rest) (own : Own) (line index first count past : ℕ) → ControlStands g old rest own → IsHead g.program rest line (tree.Do index) past
    → first ≡ first_of g.spaces index → count ≡ count_of g.spaces index
    → (count ≡ 0 → c ≡ bound_at past index 0 old) → ((n : ℕ) → count ≡ suc n → old.at + 1 < 2 ^ 32 → c ≡ begun (old.at + 1) index first (first + n) old)
    → IsLed g old c (next_of rest) own (control g rest own) (Ok tt)
do_arm g old c rest own line index first count past st head first_is count_is none some =
    by_rest g old c rest (Next (place rest) line (tree.Do index head.body) head.more) own (Ok tt) head.next.is st
    (λ stands. subst (λ (n : ℕ). IsLed g old c next.Control own (entered (loop_at (place rest) index head.body) n (count_of g.spaces index) head.more own) (Ok tt)) first_is
    (subst (λ (n : ℕ). IsLed g old c next.Control own (entered (loop_at (place rest) index head.body) first n head.more own) (Ok tt)) count_is
    (entered_arm g old c (Next (place rest) line (tree.Do index head.body) head.more) head.more own (loop_at (place rest) index head.body) first count past stands
    (ap (λ (n : ℕ). entered (loop_at (place rest) index head.body) n (count_of g.spaces index) head.more own) (sym first_is) ∙ ap (λ (n : ℕ). entered (loop_at (place rest) index head.body) first n head.more own) (sym count_is))
    refl refl head.past_is refl refl refl none some)))

-- a loop over the pieces of a segment
pub do_in_arm : (g : Setting) (old c : Position) (rest : Rest) (own : Own) (line sub index count past : ℕ) → ControlStands g old rest own → IsHead g.program rest line (tree.DoIn sub index) past
    → count ≡ pieces_of g.spaces sub (get_or old.values index 0)
    → (count ≡ 0 → c ≡ bound_at past sub 0 old) → ((n : ℕ) → count ≡ suc n → old.at + 1 < 2 ^ 32 → c ≡ begun (old.at + 1) sub 1 (1 + n) old)
    → IsLed g old c (next_of rest) own (control g rest own) (Ok tt)
do_in_arm g old c rest own line sub index count past st head count_is none some =
    let many : count ≡ pieces_of g.spaces sub (value_of own index) = count_is ∙ ap (λ (v : List ℕ). pieces_of g.spaces sub (get_or v index 0)) st.values in
    by_rest g old c rest (Next (place rest) line (tree.DoIn sub index head.body) head.more) own (Ok tt) head.next.is st
    (λ stands. subst (λ (n : ℕ). IsLed g old c next.Control own (entered (loop_at (place rest) sub head.body) 1 n head.more own) (Ok tt)) many
    (entered_arm g old c (Next (place rest) line (tree.DoIn sub index head.body) head.more) head.more own (loop_at (place rest) sub head.body) 1 count past stands
    (ap (λ (n : ℕ). entered (loop_at (place rest) sub head.body) 1 n head.more own) (sym many))
    refl refl head.past_is refl refl refl none some))

-- the end of a loop's body, gone on or left
turned_arm : (g : Setting) (old c : Position) (test : Bool) (loop : LoopAt) (last past : ℕ) (more : Rest) (own : Own) → ControlStands g old (Turn loop last more) own → nat_lt (value_of own loop.index) last ≡ test
    → LoopStands g.program loop → past ≡ place more
    → (test ≡ true → loop.head + 1 < 2 ^ 32 → c ≡ bound_at (loop.head + 1) loop.index (get_or old.values loop.index 0 + 1) old) → (test ≡ false → c ≡ left past loop.index old)
    → IsLed g old c next.Control own (turned test loop last more own) (Ok tt)
turned_arm g old c true loop last past more own st is stands past_is on over =
    let turn = Turn loop last more in
    let to = push (loop.head + 1) loop.body turn in
    let held = bound loop.index (value_of own loop.index + 1) own in
    let led : control g turn own ≡ Goes to held = ap (λ (b : Bool). turned b loop last more own) is in
    let place_is = place_push (loop.head + 1) loop.body turn (loop_body g.program loop stands).end_is in
    let below = led_short g old turn to own held st led in
    let c_is = on refl (omega (arith, below, place_is)) in
    let shows : Shows c to held = subst (λ (p : Position). Shows p to held) (sym c_is) (record {
      at = sym place_is;
      values = ap (λ (v : List ℕ). set v loop.index (get_or v loop.index 0 + 1)) st.values;
      returns = st.returns ∙ sym (returns_push (loop.head + 1) loop.body turn);
      saved = st.saved ∙ sym (values_push (loop.head + 1) loop.body turn);
      lasts = st.lasts ∙ sym (lasts_push (loop.head + 1) loop.body turn);
    }) in
    let long : length c.values ≡ length old.values = ap (λ (p : Position). length p.values) c_is ∙ length-set old.values loop.index (get_or old.values loop.index 0 + 1) in
    (refl, stands_by g old c turn to own held st led shows long, held_is c own (set own.values loop.index (value_of own loop.index + 1)) shows.values)
turned_arm g old c false loop last past more own st is stands past_is on over =
    let turn = Turn loop last more in
    let held = bound loop.index 0 own in
    let led : control g turn own ≡ Goes more held = ap (λ (b : Bool). turned b loop last more own) is in
    let c_is = over refl in
    let shows : Shows c more held = subst (λ (p : Position). Shows p more held) (sym c_is) (record {
      at = past_is;
      values = ap (λ (v : List ℕ). set v loop.index 0) st.values;
      returns = st.returns;
      saved = st.saved;
      lasts = others_are old.lasts (lasts_of more) last st.lasts;
    }) in
    let long : length c.values ≡ length old.values = ap (λ (p : Position). length p.values) c_is ∙ length-set old.values loop.index 0 in
    (refl, stands_by g old c turn more own held st led shows long, held_is c own (set own.values loop.index 0) shows.values)

-- the end of a loop's body, by its head
pub turn_arm : (g : Setting) (old c : Position) (rest : Rest) (own : Own) (head index past : ℕ) → ControlStands g old rest own → (turn : IsTurn g.program rest head) → index ≡ turn.loop.index → past ≡ turn.loop.at + 1
    → (nat_lt (get_or old.values index 0) (innermost old.lasts) ≡ true → head + 1 < 2 ^ 32 → c ≡ bound_at (head + 1) index (get_or old.values index 0 + 1) old)
    → (nat_lt (get_or old.values index 0) (innermost old.lasts) ≡ false → c ≡ left past index old)
    → IsLed g old c (next_of rest) own (control g rest own) (Ok tt)
turn_arm g old c rest own head index past st turn index_is past_is on over =
    by_rest g old c rest (Turn turn.loop turn.last turn.more) own (Ok tt) turn.is st
    (λ stands.
    let last_is : innermost old.lasts ≡ turn.last = innermost_is old.lasts (lasts_of turn.more) turn.last stands.lasts in
    let test : nat_lt (get_or old.values index 0) (innermost old.lasts) ≡ nat_lt (value_of own turn.loop.index) turn.last =
    ap (λ (v : List ℕ). nat_lt (get_or v index 0) (innermost old.lasts)) st.values ∙ (ap (λ (i : ℕ). nat_lt (value_of own i) (innermost old.lasts)) index_is ∙ ap (λ (n : ℕ). nat_lt (value_of own turn.loop.index) n) last_is) in
    turned_arm g old c (nat_lt (value_of own turn.loop.index) turn.last) turn.loop turn.last past turn.more own stands refl turn.stands (past_is ∙ sym turn.behind)
    (λ is below.
    on (test ∙ is) (subst (λ (h : ℕ). h + 1 < 2 ^ 32) (sym turn.head_is) below)
    ∙ (ap (λ (h : ℕ). bound_at (h + 1) index (get_or old.values index 0 + 1) old) turn.head_is ∙ ap (λ (i : ℕ). bound_at (turn.loop.head + 1) i (get_or old.values i 0 + 1) old) index_is))
    (λ is. over (test ∙ is) ∙ ap (λ (i : ℕ). left past i old) index_is))
