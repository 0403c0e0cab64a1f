use Rattle.sial_worked.proofs.FaultsAreFound.{shape-faults-found, side-faults-found}
use Rattle.sial_worked.proofs.faults.faulty_programs.Goals as goal

pub returns : goal.returns
returns c = record { shapes = shape-faults-found; sides = side-faults-found }
