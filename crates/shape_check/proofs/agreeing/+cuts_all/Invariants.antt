use Rattle.std.proofs.Common.{length}
use Rattle.shape_check.proofs.agreeing.+cuts_all.Given as goal

abbrev pub decreases-cuts_all : goal.decreases-cuts_all
decreases-cuts_all l = length l.parts.now
