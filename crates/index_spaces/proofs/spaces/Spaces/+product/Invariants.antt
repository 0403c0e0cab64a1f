use Rattle.std.proofs.Common.{length}
use Rattle.index_spaces.proofs.spaces.Spaces.+product.Given as goal

abbrev pub decreases-product : goal.decreases-product
decreases-product l = length l.indices.now
