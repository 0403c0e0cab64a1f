use Rattle.std.proofs.Common.{◌+◌, length}
use Rattle.kernel_contract.proofs.order.+is_nested.Given as goal

abbrev pub decreases-is_nested : goal.decreases-is_nested
decreases-is_nested l = length l.first.now + length l.second.now
