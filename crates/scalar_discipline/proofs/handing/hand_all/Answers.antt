use Rattle.std.proofs.Common.{map}
use Rattle.scalar_discipline.specs.Flat.{sides_of}
use Rattle.scalar_discipline.proofs.HandLemmas.{all_turn}
use Rattle.scalar_discipline.proofs.handing.hand_all.Goals as goal

pub loop-place-preserved : goal.loop-place-preserved
loop-place-preserved c =
    all_turn (map sides_of c.args.sides.now) c.args.calls.now c.loop-place.place c.index-calls-place.result _ _ _ _ _
    c.loop-place-test.true c.index-calls-place.is c.sides_among.ensures c.as_slice.ensures.value c.hand_on.ensures c.loop-place.invariant
