use Rattle.std.proofs.Common.{length, arith}
use Rattle.kernel_permute.proofs.StridedLemmas.{row_turn}
use Rattle.kernel_permute.proofs.strided.read_row.Goals as goal

pub loop-i-preserved : goal.loop-i-preserved
loop-i-preserved c =
    row_turn c.args.how c.args.from.now c.args.base c.args.stride (length c.args.to.now) c.loop-i.i c.combine.result c.loop-i.to _
    (omega arith) (omega arith) c.combine.ensures c.loop-i.invariant
