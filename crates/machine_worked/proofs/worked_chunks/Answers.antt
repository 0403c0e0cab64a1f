use Rattle.machine_worked.proofs.NeedsAre.{chunks-counted}
use Rattle.machine_worked.proofs.worked_chunks.Goals as goal

pub returns : goal.returns
returns c = chunks-counted
