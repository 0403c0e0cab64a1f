use Rattle.std.proofs.Common.{length, false, sym, ◌∙◌, arith}
use Rattle.sip_setting.specs.Seen.{setting_of}
use Rattle.sial_meaning.specs.LocalStep.{old_words}
use Rattle.sial_meaning.specs.Setting.{array_kind}
use Rattle.exec_sides.specs.Seen.{extents_of}
use Rattle.exec_sides.specs.Short.{volume_now}
use Rattle.exec_assign.proofs.ExtentLemmas.{few_named}
use Rattle.exec_assign.proofs.MadeLemmas.{found_err, found_ok, integrals_end, integrals_made, integrals_trap}
use Rattle.exec_assign.proofs.SpaceLemmas.{few_extents, integrals_long, volume_here, wide_for}
use Rattle.exec_assign.proofs.computing.integrals_in.Goals as goal

pub integrals-requires-clause-words : goal.integrals-requires-clause-words
integrals-requires-clause-words c =
    let g = setting_of c.args.job.now in
    c.requires.long ∙ sym (volume_here g.spaces c.args.values.now c.args.block.now.at (extents_of c.args.extents.now) c.requires.lies)

pub integrals-requires-clause-most : goal.integrals-requires-clause-most
integrals-requires-clause-most c =
    let g = setting_of c.args.job.now in
    few_extents g.spaces c.args.values.now c.args.block.now.at c.args.extents.now c.requires.lies (few_named g c.args.values.now c.args.block.now c.spaces-spaces.ensures.sound c.requires.target)

pub integrals-requires-clause-few : goal.integrals-requires-clause-few
integrals-requires-clause-few c = omega (arith, c.requires.long, c.requires.few)

pub put_down-requires-clause-wide : goal.put_down-requires-clause-wide
put_down-requires-clause-wide c =
    let g = setting_of c.args.job.now in
    wide_for c.args.pool.now (length c.integrals.new.into) (volume_now g.spaces c.args.values.now c.args.block.now.at)
    (integrals_long g.spaces c.args.values.now c.args.block.now.at c.as_slice-at.result.now (extents_of c.args.extents.now) c.args.into.now c.integrals.new.into c.requires.lies c.integrals.ensures.value)
    c.requires.wide

pub returns-in-Ok-clause-does : goal.returns-in-Ok-clause-does
returns-in-Ok-clause-does c = λ scalars shared own partials stands.
    let g = setting_of c.args.job.now in
    let block = c.args.block.now in
    integrals_end g scalars c.args.values.now c.args.pool.now c.put_down.new.pool c.args.blocks.now c.put_down.new.self own partials block stands c.integrals.new.into c.in-Ok.field-0.now
    (found_ok (old_words g own block false (array_kind g block.array)) c.old.result c.in-Ok.field-0 c.in-Ok.is (c.old.ensures.ok own stands.indices stands.blocks))
    (integrals_made g own block c.args.values.now c.as_slice-at.result.now (extents_of c.args.extents.now) c.args.into.now c.integrals.new.into stands.indices c.requires.lies c.integrals.ensures.value)
    (c.put_down.ensures.does own stands.indices stands.blocks)

pub returns-in-Err-clause-does : goal.returns-in-Err-clause-does
returns-in-Err-clause-does c = λ scalars shared own partials stands.
    let g = setting_of c.args.job.now in
    let block = c.args.block.now in
    integrals_trap g scalars c.args.values.now c.args.pool.now c.args.blocks.now own partials block c.in-Err.kind
    (found_err (old_words g own block false (array_kind g block.array)) c.old.result c.in-Err.kind c.in-Err.is (c.old.ensures.err own stands.indices stands.blocks))
