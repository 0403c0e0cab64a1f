use Rattle.first_profile.proofs.ReadyLemmas.{is-ready}
use Rattle.first_profile.proofs.laws.granted_programs_are_ready.Goals as goal

pub returns : goal.returns
returns c = is-ready
