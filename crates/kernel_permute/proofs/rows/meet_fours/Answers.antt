use Rattle.std.proofs.Common.{length, arith}
use Rattle.kernel_permute.proofs.RowsLemmas.{fours_turn, neighbour_turn}
use Rattle.kernel_permute.proofs.rows.meet_fours.Goals as goal

pub loop-k-preserved : goal.loop-k-preserved
loop-k-preserved c =
    fours_turn c.args.how c.args.from.now (length c.args.to.now) c.loop-k.k c.loop-k.to c.meet_four.new.to _ (omega arith) c.loop-k.auto.to c.meet_four.ensures.value c.loop-k.invariant

pub loop-i-preserved : goal.loop-i-preserved
loop-i-preserved c =
    neighbour_turn c.args.how c.args.from.now (length c.args.to.now) c.loop-i.i c.combine.result c.loop-i.to _ (omega arith) (omega arith) c.combine.ensures c.loop-i.invariant
