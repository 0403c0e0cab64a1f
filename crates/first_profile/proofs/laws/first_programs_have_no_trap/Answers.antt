use Rattle.first_profile.proofs.ThroughLemmas.{no_trap}
use Rattle.first_profile.proofs.laws.first_programs_have_no_trap.Goals as goal

pub returns : goal.returns
returns c = no_trap
