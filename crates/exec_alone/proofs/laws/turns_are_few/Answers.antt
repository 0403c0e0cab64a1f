use Rattle.exec_alone.proofs.TurnLemmas.{few-turns, stay-below}
use Rattle.exec_alone.proofs.laws.turns_are_few.Goals as goal

pub returns : goal.returns
returns c = record { few = few-turns; more = stay-below }
