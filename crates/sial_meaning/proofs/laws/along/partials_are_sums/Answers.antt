use Rattle.sial_meaning.proofs.PartialsAreSums.Resets.{partials_are_sums}
use Rattle.sial_meaning.proofs.laws.along.partials_are_sums.Goals as goal

pub returns : goal.returns
returns c = partials_are_sums
