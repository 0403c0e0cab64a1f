use Rattle.sip_model.proofs.ActsLemmas.{actions-are-acts}
use Rattle.sip_model.proofs.laws.actions_are_acts.Goals as goal

pub returns : goal.returns
returns c = actions-are-acts
