use Rattle.kernel_permute.proofs.LawsLemmas.{inserts_each_position, inserts_no_other}
use Rattle.kernel_permute.proofs.laws.inserts_each_position.Goals as goal

pub returns : goal.returns
returns c = record { part = inserts_each_position; rest = inserts_no_other }
