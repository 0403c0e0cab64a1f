use Rattle.std.proofs.Common.{length}
use Rattle.scalar_discipline.proofs.handing.+same.Given as goal

abbrev pub decreases-same : goal.decreases-same
decreases-same l = length l.sides.now
