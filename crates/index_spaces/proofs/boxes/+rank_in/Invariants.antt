use Rattle.std.proofs.Common.{length}
use Rattle.index_spaces.proofs.boxes.+rank_in.Given as goal

abbrev pub decreases-rank_in : goal.decreases-rank_in
decreases-rank_in l = length l.indices.now
