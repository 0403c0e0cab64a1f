use Rattle.sial_worked.proofs.FaultsAreFound.{chosen-faults-found}
use Rattle.sial_worked.proofs.faults.chosen_faults.Goals as goal

pub returns : goal.returns
returns c = chosen-faults-found
