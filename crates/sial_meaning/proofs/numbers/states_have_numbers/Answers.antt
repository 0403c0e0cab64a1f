use Rattle.sial_meaning.proofs.StatesHaveNumbers.Steps.{reached-states-have-numbers}
use Rattle.sial_meaning.proofs.numbers.states_have_numbers.Goals as goal

pub returns : goal.returns
returns c = reached-states-have-numbers
