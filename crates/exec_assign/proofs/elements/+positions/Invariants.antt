use Rattle.std.proofs.Common.{length}
use Rattle.exec_assign.proofs.elements.+positions.Given as goal

abbrev pub decreases-positions : goal.decreases-positions
decreases-positions l = length l.extents.now
