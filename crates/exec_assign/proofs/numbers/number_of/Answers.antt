use Rattle.std.proofs.Common.{ap, ◌∙◌}
use Rattle.sip_setting.specs.Seen.{setting_of}
use Rattle.sial_meaning.specs.LocalStep.{side_read}
use Rattle.exec_sides.specs.Seen.{side_of}
use Rattle.exec_assign.specs.Answers.{answer_of}
use Rattle.exec_assign.specs.Lent.{side_values}
use Rattle.exec_assign.proofs.NumberLemmas.{value_read, value_trap}
use Rattle.exec_assign.proofs.numbers.number_of.Goals as goal

pub number-requires : goal.number-requires
number-requires c =
    let g = setting_of c.args.job.now in
    let fits = c.requires.fits in
    record { fits = (g.spaces, c.args.values.now, fits.fits (side_of c.in-Ok.side) (c.read_side.ensures fits.own fits.partials fits.stands ∙ ap (answer_of side_of) c.in-Ok.is)) }

pub returns-in-Ok : goal.returns-in-Ok
returns-in-Ok c = λ own partials stands.
    let g = setting_of c.args.job.now in
    let fits = c.requires.fits in
    value_read g c.args.values.now (side_read g own c.args.right.now (side_values g c.args.pool.now c.args.values.now c.args.leases.now c.args.right.now)) (side_of c.in-Ok.side) c.number.result
    (c.read_side.ensures own partials stands ∙ ap (answer_of side_of) c.in-Ok.is)
    (fits.fits (side_of c.in-Ok.side) (c.read_side.ensures fits.own fits.partials fits.stands ∙ ap (answer_of side_of) c.in-Ok.is))
    c.number.ensures.value

pub returns-in-Err : goal.returns-in-Err
returns-in-Err c = λ own partials stands.
    let g = setting_of c.args.job.now in
    value_trap g (side_read g own c.args.right.now (side_values g c.args.pool.now c.args.values.now c.args.leases.now c.args.right.now)) c.in-Err.kind
    (c.read_side.ensures own partials stands ∙ ap (answer_of side_of) c.in-Err.is)
