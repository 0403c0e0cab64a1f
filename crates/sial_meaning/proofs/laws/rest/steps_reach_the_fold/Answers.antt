use Rattle.sial_meaning.proofs.StepsReachTheFold.Fold.{reaches_fold}
use Rattle.sial_meaning.proofs.laws.rest.steps_reach_the_fold.Goals as goal

pub returns : goal.returns
returns c = reaches_fold
