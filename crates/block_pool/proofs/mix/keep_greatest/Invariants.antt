use Rattle.std.proofs.Common.{◌≡◌}
use Rattle.block_pool.specs.declared.how.How.TheVariants.{Greatest}
use Rattle.block_pool.specs.Mixed.{mixed}
use Rattle.block_pool.proofs.mix.keep_greatest.Given as goal

abbrev pub invariant-loop-at : goal.invariant-loop-at
invariant-loop-at l = l.to ≡ mixed Greatest l.at l.fn.to l.from
