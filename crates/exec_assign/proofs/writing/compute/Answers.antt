use Rattle.std.proofs.Common.{ap, ◌∙◌}
use Rattle.sip_setting.specs.Seen.{setting_of}
use Rattle.sial_meaning.specs.LocalStep.{Answer, and_then}
use Rattle.sial_meaning.specs.Right.{Side}
use Rattle.exec_sides.specs.Seen.{side_of}
use Rattle.exec_assign.specs.Answers.{answer_of}
use Rattle.exec_assign.specs.Made.{words_made}
use Rattle.exec_assign.proofs.writing.compute.Goals as goal

pub write_side-requires-clause-fits : goal.write_side-requires-clause-fits
write_side-requires-clause-fits c =
    let fits = c.requires.fits in
    let read = c.read_side.ensures fits.own fits.partials fits.stands ∙ ap (answer_of side_of) c.in-Ok.is in
    record { own = fits.own; indices = fits.stands.indices; blocks = fits.stands.blocks; fits = λ words many. fits.fits (side_of c.in-Ok.side) words read many; long = fits.long }

pub returns-in-Ok-clause-made : goal.returns-in-Ok-clause-made
returns-in-Ok-clause-made c = λ own partials stands.
    ap (λ (r : Answer Side). and_then r (words_made (setting_of c.args.job.now) own c.args.block.now c.args.op)) (c.read_side.ensures own partials stands ∙ ap (answer_of side_of) c.in-Ok.is)
    ∙ c.write_side.ensures.made own stands.indices stands.blocks

pub returns-in-Err-clause-made : goal.returns-in-Err-clause-made
returns-in-Err-clause-made c = λ own partials stands.
    ap (λ (r : Answer Side). and_then r (words_made (setting_of c.args.job.now) own c.args.block.now c.args.op)) (c.read_side.ensures own partials stands ∙ ap (answer_of side_of) c.in-Err.is)
