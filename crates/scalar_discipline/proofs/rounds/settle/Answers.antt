use Rattle.std.proofs.Common.{◌≡◌, length, refl, sym, ap, ◌∙◌, arith}
use Rattle.scalar_discipline.specs.Calls.{lists}
use Rattle.scalar_discipline.specs.Rounds.{deeper}
use Rattle.scalar_discipline.proofs.DepthRoundLemmas.{rounds-low, settled-depths}
use Rattle.scalar_discipline.proofs.rounds.settle.Goals as goal

pub deeper-requires : goal.deeper-requires
deeper-requires c = record {
  low = rounds-low (lists c.args.calls.now) c.loop-turn.turn 65536 c.as_slice.result.now (c.as_slice.ensures.value ∙ c.loop-turn.invariant) (omega (arith, c.loop-turn-test.true, c.requires.few));
}

pub returns-then-same-clause-depths : goal.returns-then-same-clause-depths
returns-then-same-clause-depths c =
    let calls = lists c.args.calls.now in
    let fixed : deeper calls c.loop-turn.depths.items ≡ c.loop-turn.depths.items =
    ap (deeper calls) (sym c.as_slice.ensures.value)
    ∙ (sym c.in_ok-next.ensures ∙ (sym c.as_slice-in-loop-turn.ensures.value ∙ (c.if-same.ensures refl ∙ c.as_slice-in-loop-turn-2.ensures.value))) in
    settled-depths calls c.loop-turn.turn (length c.args.calls.now) c.loop-turn.depths.items c.loop-turn.invariant fixed (omega (arith, c.loop-turn-test.true))
