use Rattle.std.proofs.Common.{length}
use Rattle.exec_sides.proofs.axes.+stride_of.Given as goal

abbrev pub decreases-stride_of : goal.decreases-stride_of
decreases-stride_of l = length l.at.now
