use Rattle.code_places.proofs.Pushing.{returns_are_depth}
use Rattle.code_places.proofs.laws.returns_are_counted.Goals as goal

pub returns : goal.returns
returns c = record { depth = returns_are_depth }
