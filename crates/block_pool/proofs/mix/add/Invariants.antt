use Rattle.std.proofs.Common.{◌≡◌}
use Rattle.block_pool.specs.declared.how.How.TheVariants.{Add}
use Rattle.block_pool.specs.Mixed.{mixed}
use Rattle.block_pool.proofs.mix.add.Given as goal

abbrev pub invariant-loop-at : goal.invariant-loop-at
invariant-loop-at l = l.to ≡ mixed Add l.at l.fn.to l.from
