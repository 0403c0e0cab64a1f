use Rattle.std.proofs.Common.{◌++◌, ap, ◌∙◌}
use Rattle.sial_syntax.specs.Tree.{tree}
use Rattle.sial_printer.proofs.Writes.{first_failed, both_wrote}
use Rattle.sial_printer.specs.Parts.{dims_text}
use Rattle.sial_printer.specs.Symbols.{array_name}
use Rattle.sial_printer.proofs.lists.block.Goals as goal

pub returns-in_err-write : goal.returns-in_err-write
returns-in_err-write g c =
    let dims = dims_text (tree c.args.program.now) c.args.block.now.at in
    first_failed _ dims c.from_residual.result c.in_err-write.ensures c.from_residual.ensures.0 (ap (λ h. h ++ dims) c.array_name.ensures)

pub returns : goal.returns
returns g c =
    let p = tree c.args.program.now in
    both_wrote _ c.dims.result c.in_ok-write.ensures c.dims.ensures
    (ap (λ h. h ++ dims_text p c.as_slice.result.now) c.array_name.ensures ∙ ap (λ is. array_name p c.args.block.now.array ++ dims_text p is) c.as_slice.ensures)
