use Rattle.sial_worked.proofs.EpochsAre.{clash-by-epochs, stale-by-epochs, goes-on-course}
use Rattle.sial_worked.proofs.programs.worked_epochs.Goals as goal

pub returns : goal.returns
returns c = record { clash = clash-by-epochs; stale = stale-by-epochs; goes_on = goes-on-course }
