use Rattle.std.proofs.Common.{◌++◌, ap, ◌∙◌}
use Rattle.sial_syntax.specs.Tree.{tree}
use Rattle.sial_printer.proofs.Writes.{first_failed, both_wrote}
use Rattle.sial_printer.proofs.SpacedLemmas.{line_is}
use Rattle.sial_printer.specs.Parts.{end_text}
use Rattle.sial_printer.proofs.line.line.Goals as goal

pub returns-in_err-write : goal.returns-in_err-write
returns-in_err-write g c =
    let p = tree c.args.program.now in
    first_failed _ (end_text p c.args.parts.now) c.from_residual.result c.in_err-write.ensures c.from_residual.ensures.0
    (ap (λ h. h ++ end_text p c.args.parts.now) c.key_bytes.ensures ∙ line_is p c.args.key c.args.parts.now)

pub returns : goal.returns
returns g c =
    let p = tree c.args.program.now in
    both_wrote _ c.end.result c.in_ok-write.ensures c.end.ensures
    (ap (λ h. h ++ end_text p c.args.parts.now) c.key_bytes.ensures ∙ line_is p c.args.key c.args.parts.now)
