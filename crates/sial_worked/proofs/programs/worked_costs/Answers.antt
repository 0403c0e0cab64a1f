use Rattle.sial_worked.proofs.CostsAre.{steps-are-counted, words-are-counted}
use Rattle.sial_worked.proofs.programs.worked_costs.Goals as goal

pub returns : goal.returns
returns c = record { steps = steps-are-counted; words = words-are-counted }
