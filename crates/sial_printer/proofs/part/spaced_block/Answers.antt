use Rattle.std.proofs.Common.{refl}
use Rattle.sial_syntax.specs.Tree.{tree}
use Rattle.sial_printer.proofs.Writes.{first_failed, both_wrote}
use Rattle.sial_printer.specs.Parts.{block_text}
use Rattle.sial_printer.proofs.part.spaced_block.Goals as goal

pub returns-in_err-write : goal.returns-in_err-write
returns-in_err-write g c = first_failed _ (block_text (tree c.args.program.now) c.args.one.now) c.from_residual.result c.in_err-write.ensures c.from_residual.ensures.0 refl

pub returns : goal.returns
returns g c = both_wrote _ c.block.result c.in_ok-write.ensures c.block.ensures refl
