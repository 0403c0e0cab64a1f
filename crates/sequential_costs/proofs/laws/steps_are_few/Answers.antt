use Rattle.sequential_costs.proofs.StepsAreFew.Ends.{steps_are_few, fold_is_near}
use Rattle.sequential_costs.proofs.laws.steps_are_few.Goals as goal

pub returns : goal.returns
returns c = record { few = steps_are_few; fold = fold_is_near }
