use Rattle.sip_model.proofs.ReachLemmas.{runs-reach}
use Rattle.sip_model.proofs.laws.runs_are_reached.Goals as goal

pub returns : goal.returns
returns c = runs-reach
