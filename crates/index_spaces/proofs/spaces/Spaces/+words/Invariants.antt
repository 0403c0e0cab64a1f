use Rattle.std.proofs.Common.{length}
use Rattle.index_spaces.proofs.spaces.Spaces.+words.Given as goal

abbrev pub decreases-words : goal.decreases-words
decreases-words l = length l.indices.now
