use Rattle.std.proofs.Common.{length}
use Rattle.exec_sides.proofs.positions.+integral_at.Given as goal

abbrev pub decreases-integral_at : goal.decreases-integral_at
decreases-integral_at l = length l.extents.now
