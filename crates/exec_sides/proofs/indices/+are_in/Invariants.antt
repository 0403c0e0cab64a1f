use Rattle.std.proofs.Common.{length}
use Rattle.exec_sides.proofs.indices.+are_in.Given as goal

abbrev pub decreases-are_in : goal.decreases-are_in
decreases-are_in l = length l.indices.now
