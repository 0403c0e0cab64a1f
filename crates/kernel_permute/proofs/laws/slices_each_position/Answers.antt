use Rattle.kernel_permute.proofs.LawsLemmas.{slices_each_position}
use Rattle.kernel_permute.proofs.laws.slices_each_position.Goals as goal

pub returns : goal.returns
returns c = slices_each_position
