use Rattle.machine_worked.proofs.NeedsAre.{big-is-sound}
use Rattle.machine_worked.proofs.worked_needs.Goals as goal

pub returns-clause-sound : goal.returns-clause-sound
returns-clause-sound c = big-is-sound
