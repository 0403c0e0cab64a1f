use Rattle.std.proofs.Common.{length}
use Rattle.index_spaces.proofs.spaces.Spaces.+widest_block.Given as goal

abbrev pub decreases-widest_block : goal.decreases-widest_block
decreases-widest_block l = length l.indices.now
