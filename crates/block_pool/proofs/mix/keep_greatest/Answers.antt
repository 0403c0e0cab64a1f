use Rattle.std.proofs.Common.{arith}
use Rattle.block_pool.specs.declared.how.How.TheVariants.{Greatest}
use Rattle.block_pool.proofs.MixedLemmas.{mixed_step}
use Rattle.block_pool.proofs.mix.keep_greatest.Goals as goal

pub loop-at-preserved : goal.loop-at-preserved
loop-at-preserved c =
    rw c.max.ensures
    (mixed_step Greatest c.loop-at.at c.loop-at.to c.args.to.now c.args.from.now c.loop-at.invariant (omega arith) (omega arith))
