use Rattle.sial_syntax.specs.Tree.{tree}
use Rattle.sial_printer.proofs.Writes.{first_failed, both_wrote}
use Rattle.sial_printer.proofs.SpacedLemmas.{some_names}
use Rattle.sial_printer.specs.Parts.{names_text}
use Rattle.sial_printer.proofs.part.spaced_names.Goals as goal

pub returns-in_err-write : goal.returns-in_err-write
returns-in_err-write g c =
    first_failed _ (names_text (tree c.args.program.now) c.args.indices.now) c.from_residual.result c.in_err-write.ensures c.from_residual.ensures.0
    (some_names (tree c.args.program.now) c.args.indices.now c.is_empty.result c.is_empty.ensures c.if-is_empty.false)

pub returns : goal.returns
returns g c =
    both_wrote _ c.names.result c.in_ok-write.ensures c.names.ensures
    (some_names (tree c.args.program.now) c.args.indices.now c.is_empty.result c.is_empty.ensures c.if-is_empty.false)
