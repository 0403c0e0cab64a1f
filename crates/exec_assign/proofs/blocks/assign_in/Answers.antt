use Rattle.std.proofs.Common.{ap, ◌∙◌}
use Rattle.sip_setting.specs.Seen.{setting_of}
use Rattle.sial_meaning.specs.LocalStep.{side_read}
use Rattle.exec_sides.specs.Short.{volume_now}
use Rattle.exec_assign.specs.Answers.{answer_of}
use Rattle.exec_assign.specs.Lent.{side_values}
use Rattle.exec_assign.proofs.MadeLemmas.{assigned_ends, assigned_trap}
use Rattle.exec_assign.proofs.SpaceLemmas.{wide_for}
use Rattle.exec_assign.proofs.blocks.assign_in.Goals as goal

pub put_down-requires-clause-wide : goal.put_down-requires-clause-wide
put_down-requires-clause-wide c =
    wide_for c.args.pool.now _ (volume_now (setting_of c.args.job.now).spaces c.args.values.now c.args.block.now.at) (c.compute.ensures.len ∙ c.requires.long) c.requires.wide

pub returns-in-Ok-clause-does : goal.returns-in-Ok-clause-does
returns-in-Ok-clause-does c = λ own partials stands.
    let g = setting_of c.args.job.now in
    assigned_ends g c.args.scalars.now c.args.values.now c.args.pool.now c.put_down.new.pool c.args.blocks.now c.put_down.new.self own partials c.args.block.now stands c.args.op
    (side_read g own c.args.right.now (side_values g c.args.pool.now c.args.values.now c.args.leases.now c.args.right.now)) c.compute.new.into
    (c.compute.ensures.made own partials stands ∙ ap (answer_of (λ (done : Unit {0}). c.compute.new.into)) c.in-Ok.is)
    (c.put_down.ensures.does own stands.indices stands.blocks)

pub returns-in-Err-clause-does : goal.returns-in-Err-clause-does
returns-in-Err-clause-does c = λ own partials stands.
    let g = setting_of c.args.job.now in
    assigned_trap g c.args.scalars.now c.args.values.now c.args.pool.now c.args.blocks.now own partials c.args.block.now c.in-Err.kind c.args.op
    (side_read g own c.args.right.now (side_values g c.args.pool.now c.args.values.now c.args.leases.now c.args.right.now))
    (c.compute.ensures.made own partials stands ∙ ap (answer_of (λ (done : Unit {0}). c.compute.new.into)) c.in-Err.is)
