-- The heads of loops: what stands there, and that their indices are declared.
use Rattle.std.proofs.Common.{◌≡◌, ℕ, ◌<◌, ◌≤◌, length, true, ◌&&◌, nat_lt, refl, sym, ap, ◌∙◌, subst, arith}
use Rattle.std.proofs.lemmas.Bool.Decides.{nat_tests}
use Rattle.sial_syntax.specs.Proper.{has_index, proper_body, nesting}
use Rattle.sial_syntax.specs.Tree.{Tree, Plain, Block, Do, DoIn}
use Rattle.sial_meaning.specs.Own.{Own}
use Rattle.sial_meaning.specs.Rest.{LoopAt, Rest}
use Rattle.sial_meaning.specs.Setting.{Setting}
use Rattle.sial_meaning.proofs.StepsReachTheFold.Rules.{both}
use Rattle.sip_tables.specs.declared.instruction.Instruction.{Instruction}
use Rattle.sip_tables.specs.declared.instruction.Operation.{Operation}
use Rattle.sip_tables.specs.declared.instruction.Operation.TheVariants as op
use Rattle.code_places.specs.Follows.{IsLoop, LoopStands}
use Rattle.code_places.specs.ItemLaws.{IsHeadOf}
use Rattle.code_places.specs.Items.{IsHead, IsTurn}
use Rattle.code_places.specs.Standing.{HasAt, FormStands}
use Rattle.code_places.proofs.ItemLemmas.{loops_have_heads}
use Rattle.exec_control.specs.Depth.{lasts_of, Nests}
use Rattle.exec_control.specs.Position.{Position}
use Rattle.exec_control.specs.Stands.{ControlStands}
use Rattle.exec_control.proofs.NestLemmas.{room_left}
use Rattle.exec_control.proofs.StandLemmas.{same_instruction}

-- a declared index has a place
less : (a b : ℕ) → nat_lt a b ≡ true → a < b
less a b is = grind (arith, nat_tests)

-- the index of a loop is declared
loop_declared : (p : Tree) (loop : LoopAt) → LoopStands p loop → loop.index < length p.indices
loop_declared p loop s = by_form loop s.line s.form s.is_loop s.form_stands
  where
    by_form : (l : LoopAt) (line : ℕ) (form : Plain) → IsLoop l form → FormStands p l.head line form → l.index < length p.indices
    by_form l line (Do index body) is stands =
        subst (λ (i : ℕ). i < length p.indices) (sym (ap (λ (x : LoopAt). x.index) is)) (less index (length p.indices) (both (has_index p index) (proper_body p body) stands.proper).0)
    by_form l line (DoIn sub index body) is stands =
        subst (λ (i : ℕ). i < length p.indices) (sym (ap (λ (x : LoopAt). x.index) is)) (less sub (length p.indices) (both (has_index p sub) (has_index p index && proper_body p body) stands.proper).0)
    by_form l line form is stands = absurd is

-- what the head of a loop in progress says
pub head_says : (g : Setting) (rest : Rest) (head : ℕ) (i : Instruction) → (turn : IsTurn g.program rest head) → HasAt g.program head i → IsHeadOf turn.loop i.operation
head_says g rest head i turn has =
    let h = loops_have_heads g.program turn.loop turn.stands in
    subst (λ (j : Instruction). IsHeadOf turn.loop j.operation)
    (same_instruction g.program turn.loop.head h.0 i h.1 (subst (λ (n : ℕ). HasAt g.program n i) turn.head_is has)) h.2

-- the index of a loop in progress has a number
pub turn_declared : (g : Setting) (c : Position) (rest : Rest) (own : Own) (head index : ℕ) → ControlStands g c rest own → (turn : IsTurn g.program rest head) → index ≡ turn.loop.index → index < length c.values
turn_declared g c rest own head index st turn is =
    let below = loop_declared g.program turn.loop turn.stands in
    omega (arith, below, is, st.long)

-- so does that of a loop over segments that is to be entered
pub do_declared : (g : Setting) (c : Position) (rest : Rest) (own : Own) (line index past : ℕ) → ControlStands g c rest own → IsHead g.program rest line (Do index) past → index < length c.values
do_declared g c rest own line index past st head =
    let below = less index (length g.program.indices) (both (has_index g.program index) (proper_body g.program head.body) head.next.stands.proper).0 in
    omega (arith, below, st.long)

-- and those of a loop over pieces
pub do_in_declared : (g : Setting) (c : Position) (rest : Rest) (own : Own) (line sub index past : ℕ) → ControlStands g c rest own → IsHead g.program rest line (DoIn sub index) past → (sub < length c.values) × (index < length c.values)
do_in_declared g c rest own line sub index past st head =
    let parts = both (has_index g.program sub) (has_index g.program index && proper_body g.program head.body) head.next.stands.proper in
    let one = less sub (length g.program.indices) parts.0 in
    let other = less index (length g.program.indices) (both (has_index g.program index) (proper_body g.program head.body) parts.1).0 in
    (omega (arith, one, st.long), omega (arith, other, st.long))

-- no other instruction is the head of a loop
pub no_other_head : (loop : LoopAt) (o : Operation) → IsHeadOf loop o → ((index past : ℕ) → o ≡ op.Do index past → ⊥) → ((sub index past : ℕ) → o ≡ op.DoIn sub index past → ⊥) → ⊥
no_other_head loop (op.Do index past) is not_do not_do_in = not_do index past refl
no_other_head loop (op.DoIn sub index past) is not_do not_do_in = not_do_in sub index past refl
no_other_head loop o is not_do not_do_in = absurd is

-- there is room for the last number of a loop that is to be entered
pub head_room : (g : Setting) (c : Position) (rest : Rest) (own : Own) (line : ℕ) (form : Block → Plain) (past : ℕ) → ControlStands g c rest own → IsHead g.program rest line form past
    → ((body : Block) → 1 ≤ nesting (form body)) → length c.lasts < 544
head_room g c rest own line form past st head holds =
    let nests = subst Nests head.next.is st.nests in
    let room = room_left (form head.body) head.more (holds head.body) nests.0 nests.1 in
    let lasts : c.lasts ≡ lasts_of head.more = st.lasts ∙ ap lasts_of head.next.is in
    omega (arith, room, ap length lasts)
