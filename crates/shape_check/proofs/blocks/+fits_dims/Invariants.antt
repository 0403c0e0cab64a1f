use Rattle.std.proofs.Common.{length}
use Rattle.shape_check.proofs.blocks.+fits_dims.Given as goal

abbrev pub decreases-fits_dims : goal.decreases-fits_dims
decreases-fits_dims l = length l.used.now
