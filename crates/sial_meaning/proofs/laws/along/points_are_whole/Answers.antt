use Rattle.sial_meaning.proofs.PointsAreWhole.Numbers.{points-have-numbers}
use Rattle.sial_meaning.proofs.PointsAreWhole.Whole.{points-are-whole}
use Rattle.sial_meaning.proofs.laws.along.points_are_whole.Goals as goal

pub returns : goal.returns
returns c = record { whole = points-are-whole; numbers = points-have-numbers }
