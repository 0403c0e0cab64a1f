use Rattle.code_places.proofs.Naming.{scalars_are_named}
use Rattle.code_places.proofs.laws.scalars_are_named.Goals as goal

pub returns : goal.returns
returns c = record { named = scalars_are_named }
