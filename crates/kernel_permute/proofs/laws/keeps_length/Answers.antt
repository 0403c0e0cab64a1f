use Rattle.kernel_permute.proofs.LawsLemmas.{keeps_length}
use Rattle.kernel_permute.proofs.laws.keeps_length.Goals as goal

pub returns : goal.returns
returns c = keeps_length
