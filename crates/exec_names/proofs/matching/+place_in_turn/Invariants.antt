use Rattle.std.proofs.Common.{length}
use Rattle.exec_names.proofs.matching.+place_in_turn.Given as goal

-- the dimensions that are left
abbrev pub decreases-place_in_turn : goal.decreases-place_in_turn
decreases-place_in_turn l = length l.dims.now
