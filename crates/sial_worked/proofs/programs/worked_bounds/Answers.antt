use Rattle.sial_worked.proofs.BoundsHold.{numbers-are-bounded, constants-are-an-inputs}
use Rattle.sial_worked.proofs.programs.worked_bounds.Goals as goal

pub returns : goal.returns
returns c = record { numbers = numbers-are-bounded; constants = constants-are-an-inputs }
