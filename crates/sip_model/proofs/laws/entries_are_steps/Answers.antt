use Rattle.sip_model.proofs.EntryLemmas.{entries-are-steps}
use Rattle.sip_model.proofs.laws.entries_are_steps.Goals as goal

pub returns : goal.returns
returns c = entries-are-steps
