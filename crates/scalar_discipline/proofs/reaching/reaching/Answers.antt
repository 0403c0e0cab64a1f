use Rattle.std.proofs.Common.{◌≡◌, length, refl, sym, ap, ◌∙◌, arith}
use Rattle.scalar_discipline.specs.Calls.{lists}
use Rattle.scalar_discipline.specs.Rounds.{reach_next}
use Rattle.scalar_discipline.proofs.ReachRoundLemmas.{settled-reach}
use Rattle.scalar_discipline.proofs.reaching.reaching.Goals as goal

pub returns-then-same : goal.returns-then-same
returns-then-same c =
    let calls = lists c.args.calls.now in
    let fixed : reach_next calls c.args.to c.loop-turn.reach.items ≡ c.loop-turn.reach.items =
    ap (reach_next calls c.args.to) (sym c.as_slice.ensures.value)
    ∙ (sym c.in_ok-further.ensures ∙ (sym c.as_slice-in-loop-turn.ensures.value ∙ (c.if-same.ensures refl ∙ c.as_slice-in-loop-turn-2.ensures.value))) in
    settled-reach calls c.args.to c.loop-turn.turn (length c.args.calls.now) c.loop-turn.reach.items c.loop-turn.invariant fixed (omega (arith, c.loop-turn-test.true))
