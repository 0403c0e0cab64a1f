use Rattle.std.proofs.Common.{length}
use Rattle.exec_assign.proofs.parts.+is_any_part.Given as goal

abbrev pub decreases-is_any_part : goal.decreases-is_any_part
decreases-is_any_part l = length l.at.now
