use Rattle.std.proofs.Common.{length}
use Rattle.index_spaces.proofs.spaces.Spaces.+slots_outside.Given as goal

abbrev pub decreases-slots_outside : goal.decreases-slots_outside
decreases-slots_outside l = length l.at.now
