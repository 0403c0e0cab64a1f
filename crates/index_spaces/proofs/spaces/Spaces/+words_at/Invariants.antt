use Rattle.std.proofs.Common.{length}
use Rattle.index_spaces.proofs.spaces.Spaces.+words_at.Given as goal

abbrev pub decreases-words_at : goal.decreases-words_at
decreases-words_at l = length l.indices.now
