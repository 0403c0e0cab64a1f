use Rattle.std.proofs.Common.{◌≡◌, drop}
use Rattle.block_pool.specs.Opened.{widest_from}
use Rattle.block_pool.proofs.pool.opening.widest_of.Given as goal

abbrev pub invariant-loop-class : goal.invariant-loop-class
invariant-loop-class l = widest_from l.widest l.class (drop l.class l.widths) ≡ widest_from 17 0 l.widths
