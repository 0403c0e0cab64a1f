use Rattle.std.proofs.Common.{◌++◌, length, ap, ◌∙◌}
use Rattle.table_file.specs.Bytes as spec
use Rattle.table_file.proofs.Writes.{first_failed, both_wrote}
use Rattle.table_file.proofs.entry.TextEntry.write.Goals as goal

pub returns-in_err-write : goal.returns-in_err-write
returns-in_err-write g c = first_failed _ c.args.self.now c.from_residual.result c.in_err-write.ensures c.from_residual.ensures.0 (ap (λ h. h ++ c.args.self.now) (c.short_length.ensures ∙ ap spec.short c.len.ensures))

pub returns : goal.returns
returns g c =
    both_wrote _ c.write-2.result c.in_ok-write.ensures c.write-2.ensures
    (ap (λ h. h ++ c.as_slice.result.now) (c.short_length.ensures ∙ ap spec.short c.len.ensures) ∙ ap (λ t. spec.short (length c.args.self.now) ++ t) c.as_slice.ensures)
