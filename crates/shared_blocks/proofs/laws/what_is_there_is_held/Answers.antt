use Rattle.shared_blocks.proofs.StandLemmas.{what_is_there_is_held}
use Rattle.shared_blocks.proofs.laws.what_is_there_is_held.Goals as goal

pub returns : goal.returns
returns c = what_is_there_is_held
