use Rattle.std.proofs.Common.{length}
use Rattle.index_spaces.proofs.ranges.+box_len.Given as goal

abbrev pub decreases-box_len : goal.decreases-box_len
decreases-box_len l = length l.indices.now
