use Rattle.std.proofs.Common.{◌++◌, ap}
use Rattle.std.specs.List.{flat_map}
use Rattle.table_file.proofs.Writes.{first_failed, both_wrote}
use Rattle.table_file.proofs.writing.list.Goals as goal

pub returns-in_err-write : goal.returns-in_err-write
returns-in_err-write g c =
    first_failed _ (flat_map g.T.Entry.bytes c.args.entries.now) c.from_residual.result c.in_err-write.ensures c.from_residual.ensures.0 (ap (λ h. h ++ flat_map g.T.Entry.bytes c.args.entries.now) c.word_length.ensures)

pub returns : goal.returns
returns g c =
    both_wrote _ c.all.result c.in_ok-write.ensures c.all.ensures (ap (λ h. h ++ flat_map g.T.Entry.bytes c.args.entries.now) c.word_length.ensures)
