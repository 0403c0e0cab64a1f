use Rattle.sial_meaning.proofs.AssignmentsReadBack.Held.{assignments-are-held}
use Rattle.sial_meaning.proofs.read_back.assignments_are_held.Goals as goal

pub returns : goal.returns
returns c = assignments-are-held
