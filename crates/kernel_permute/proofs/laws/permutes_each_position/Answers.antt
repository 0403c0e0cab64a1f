use Rattle.kernel_permute.proofs.LawsLemmas.{permutes_each_position}
use Rattle.kernel_permute.proofs.laws.permutes_each_position.Goals as goal

pub returns : goal.returns
returns c = permutes_each_position
