use Rattle.std.proofs.Common.{length}
use Rattle.exec_names.proofs.matching.+matches.Given as goal

-- the dimensions that are left
abbrev pub decreases-matches : goal.decreases-matches
decreases-matches l = length l.dims.now
