use Rattle.std.proofs.Common.{length}
use Rattle.kernel_contract.proofs.order.+longest.Given as goal

abbrev pub decreases-longest : goal.decreases-longest
decreases-longest l = length l.axes.now
