use Rattle.std.proofs.Common.{◌≡◌, length, map, refl, sym, ap, ◌∙◌, arith}
use Rattle.scalar_discipline.specs.Calls.{lists}
use Rattle.scalar_discipline.specs.Flat.{sides_of}
use Rattle.scalar_discipline.specs.Handing.{next_sides}
use Rattle.scalar_discipline.proofs.HandLemmas.{settled-sides}
use Rattle.scalar_discipline.proofs.handing.procedure_sides.Goals as goal

pub returns-then-same : goal.returns-then-same
returns-then-same c =
    let body = c.args.body.now in
    let calls = lists c.args.calls.now in
    let sides = map sides_of c.loop-turn.sides.items in
    let fixed : next_sides body calls sides ≡ sides =
    ap (λ xs. next_sides body calls (map sides_of xs)) (sym c.as_slice.ensures.value)
    ∙ (sym c.in_ok-next.ensures ∙ (ap (map sides_of) (sym c.as_slice-in-loop-turn.ensures.value) ∙ (c.if-same.ensures refl ∙ ap (map sides_of) c.as_slice-in-loop-turn-2.ensures.value))) in
    settled-sides body calls c.loop-turn.turn (length c.args.calls.now) sides c.loop-turn.invariant fixed (omega (arith, c.loop-turn-test.true))
