use Rattle.std.proofs.Common.{length}
use Rattle.shape_check.proofs.slots.+slots_fit.Given as goal

abbrev pub decreases-slots_fit : goal.decreases-slots_fit
decreases-slots_fit l = length l.at.now
