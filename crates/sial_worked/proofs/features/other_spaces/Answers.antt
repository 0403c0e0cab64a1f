use Rattle.sial_worked.proofs.RulesAre.{spaces-are-refused}
use Rattle.sial_worked.proofs.features.other_spaces.Goals as goal

pub returns : goal.returns
returns c = spaces-are-refused
