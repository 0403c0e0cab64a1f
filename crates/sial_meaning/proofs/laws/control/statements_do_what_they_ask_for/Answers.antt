use Rattle.sial_meaning.proofs.StepsReachTheFold.Asked.{effects-by-what-is-asked}
use Rattle.sial_meaning.proofs.laws.control.statements_do_what_they_ask_for.Goals as goal

pub returns : goal.returns
returns c = effects-by-what-is-asked
