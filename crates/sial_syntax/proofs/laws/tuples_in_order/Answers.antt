use Rattle.sial_syntax.proofs.BoxLemmas.{tuples-are, tuples-counted}
use Rattle.sial_syntax.proofs.laws.tuples_in_order.Goals as goal

pub returns : goal.returns
returns c = record { order = tuples-are; count = tuples-counted }
