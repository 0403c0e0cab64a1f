use Rattle.sial_syntax.specs.Tree.{tree}
use Rattle.sial_printer.proofs.Writes.{first_failed, both_wrote}
use Rattle.sial_printer.proofs.SpacedLemmas.{assignment_is}
use Rattle.sial_printer.specs.Parts.{end_text}
use Rattle.sial_printer.proofs.line.assignment.Goals as goal

pub returns-in_err-target : goal.returns-in_err-target
returns-in_err-target g c =
    let p = tree c.args.program.now in
    first_failed _ (end_text p c.args.parts.now) c.from_residual.result c.in_err-target.ensures c.from_residual.ensures.0 (assignment_is p c.args.left.now c.args.parts.now)

pub returns : goal.returns
returns g c = both_wrote _ c.end.result c.in_ok-target.ensures c.end.ensures (assignment_is (tree c.args.program.now) c.args.left.now c.args.parts.now)
