use Rattle.sequential_costs.proofs.StepsAreFew.Ends.{one_step_more, end_is_the_meaning, halt_is_the_meaning}
use Rattle.sequential_costs.proofs.laws.steps_end_in_the_meaning.Goals as goal

pub returns : goal.returns
returns c = record { more = one_step_more; end = end_is_the_meaning; halt = halt_is_the_meaning }
