use Rattle.std.proofs.Common.{arith}
use Rattle.block_pool.specs.declared.how.How.TheVariants.{Add}
use Rattle.block_pool.proofs.MixedLemmas.{mixed_step}
use Rattle.block_pool.proofs.mix.add.Goals as goal

pub loop-at-preserved : goal.loop-at-preserved
loop-at-preserved c =
    mixed_step Add c.loop-at.at c.loop-at.to c.args.to.now c.args.from.now c.loop-at.invariant (omega arith) (omega arith)
