use Rattle.kernel_contract.proofs.FilledLemmas.{filled_is}
use Rattle.kernel_contract.proofs.splits.filled.Goals as goal

pub returns : goal.returns
returns g c = filled_is g.row.N c.args.axes.now c.copy_from_slice.new.self c.requires c.copy_from_slice.ensures.after
