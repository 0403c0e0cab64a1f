use Rattle.std.proofs.Common.{◌∙◌}
use Rattle.kernel_permute.proofs.RowsLemmas.{neighbours_copied}
use Rattle.kernel_permute.proofs.rows.meet_row.Goals as goal

pub returns-in-Set : goal.returns-in-Set
returns-in-Set c = record { value = c.copy_from_slice.ensures.after ∙ (rw c.in-Set.is (neighbours_copied c.args.from.now c.args.to.now c.requires.same_length)) }
