use Rattle.first_profile.proofs.ReadyLemmas.{trees-run}
use Rattle.first_profile.proofs.laws.granted_trees_run.Goals as goal

pub returns : goal.returns
returns c = trees-run
