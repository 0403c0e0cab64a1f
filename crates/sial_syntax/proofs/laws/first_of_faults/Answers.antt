use Rattle.sial_syntax.proofs.FirstIsFirst.{first-is-first, none-without-faults}
use Rattle.sial_syntax.proofs.laws.first_of_faults.Goals as goal

pub returns : goal.returns
returns c = record { first = first-is-first; none = none-without-faults }
