use Rattle.std.proofs.Common.{refl}
use Rattle.kernel_permute.proofs.InsertingLemmas.{insert_row_is}
use Rattle.kernel_permute.proofs.inserting.insert_row.Goals as goal

pub returns : goal.returns
returns c = record { value = insert_row_is c.args.how c.args.row.at c.args.row.size c.args.row.dim _ c.args.from.now c.args.to.now c.meet_row.new.to _ c.requires.part c.requires.to_length refl c.meet_row.ensures.value refl }
