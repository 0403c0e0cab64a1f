use Rattle.std.proofs.Common.{length}
use Rattle.exec_assign.proofs.parts.+has.Given as goal

abbrev pub decreases-has : goal.decreases-has
decreases-has l = length l.indices.now
