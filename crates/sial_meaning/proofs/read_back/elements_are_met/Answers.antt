use Rattle.sial_meaning.proofs.AssignmentsReadBack.Elements.{each-element-is-met, as-many-elements}
use Rattle.sial_meaning.proofs.read_back.elements_are_met.Goals as goal

pub returns : goal.returns
returns c = record { element = each-element-is-met; length = as-many-elements }
