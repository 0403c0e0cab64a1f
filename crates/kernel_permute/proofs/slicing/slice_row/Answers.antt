use Rattle.std.proofs.Common.{◌∙◌}
use Rattle.kernel_permute.proofs.SlicingLemmas.{slice_row_is}
use Rattle.kernel_permute.proofs.slicing.slice_row.Goals as goal

pub returns : goal.returns
returns c = record { value = c.meet_row.ensures.value ∙ slice_row_is c.args.how c.args.row.at c.args.row.size c.args.row.dim _ c.args.from.now c.args.to.now c.requires.to_length }
