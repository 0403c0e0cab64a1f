use Rattle.std.proofs.Common.{length}
use Rattle.kernel_contract.proofs.contracting.+size.Given as goal

abbrev pub decreases-size : goal.decreases-size
decreases-size l = length l.axes.now
