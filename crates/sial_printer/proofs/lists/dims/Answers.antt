use Rattle.std.proofs.Common.{◌∷◌, ◌++◌, [], refl}
use Rattle.sial_syntax.specs.Tree.{tree}
use Rattle.sip_files.proofs.SinkLemmas.{then_wrote, stopped}
use Rattle.sial_printer.proofs.Writes.{first_failed, both_wrote}
use Rattle.sial_printer.specs.Parts.{names_text}
use Rattle.sial_printer.proofs.lists.dims.Goals as goal

pub returns-in_err-write : goal.returns-in_err-write
returns-in_err-write g c = first_failed _ (names_text (tree c.args.program.now) c.args.indices.now ++ 41 ∷ []) c.from_residual.result c.in_err-write.ensures c.from_residual.ensures.0 refl

pub returns-in_err-names : goal.returns-in_err-names
returns-in_err-names g c = both_wrote _ c.from_residual-in_err-names.result c.in_ok-write.ensures (stopped (41 ∷ []) c.from_residual-in_err-names.result c.in_err-names.ensures c.from_residual-in_err-names.ensures.0) refl

pub returns : goal.returns
returns g c = both_wrote _ c.write-2.result c.in_ok-write.ensures (then_wrote c.write-2.result c.in_ok-names.ensures c.write-2.ensures) refl
