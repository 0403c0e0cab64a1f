use Rattle.std.proofs.Common.{◌≡◌, ℕ, List, sym, ap, ◌∙◌, length, ◌||◌}
use Rattle.sip_setting.specs.Seen.{setting_of}
use Rattle.sial_meaning.specs.LocalStep as step
use Rattle.sial_meaning.specs.LocalStep.{old_words}
use Rattle.sial_meaning.specs.Right.{is_insertion}
use Rattle.sial_meaning.specs.Setting.{array_kind}
use Rattle.exec_sides.specs.Seen.{extents_of, side_of}
use Rattle.exec_sides.specs.Short.{volume_now}
use Rattle.exec_assign.proofs.MadeLemmas.{brought_long, can_assign, found_err, found_ok, made_here, made_trap, old_many}
use Rattle.exec_assign.proofs.writing.write_side.Goals as goal

pub bring-requires : goal.bring-requires
bring-requires c = λ asked.
    let g = setting_of c.args.job.now in
    let block = c.args.block.now in
    let fits = c.requires.fits in
    old_many g fits.own block c.needs_old-needed.result c.in-Ok.words.now (volume_now g.spaces c.args.values.now block.at)
    (found_ok (old_words g fits.own block c.needs_old-needed.result (array_kind g block.array)) c.old.result c.in-Ok.words c.in-Ok.is (c.old.ensures.ok fits.own fits.indices fits.blocks)) fits.long asked
    ∙ sym c.requires.long

pub assign-requires : goal.assign-requires
assign-requires c =
    let g = setting_of c.args.job.now in
    let block = c.args.block.now in
    let fits = c.requires.fits in
    let many : length c.bring.new.into ≡ volume_now g.spaces c.args.values.now block.at =
    brought_long c.needs_old-needed.result c.in-Ok.words.now c.args.into.now c.bring.new.into (volume_now g.spaces c.args.values.now block.at) c.bring.ensures
    (λ asked. old_many g fits.own block c.needs_old-needed.result c.in-Ok.words.now (volume_now g.spaces c.args.values.now block.at)
    (found_ok (old_words g fits.own block c.needs_old-needed.result (array_kind g block.array)) c.old.result c.in-Ok.words c.in-Ok.is (c.old.ensures.ok fits.own fits.indices fits.blocks)) fits.long asked)
    c.requires.long in
    record { fits = can_assign g.spaces c.args.values.now block.at c.as_slice-at.result.now c.args.op (side_of c.args.side.now) (extents_of c.args.extents.now) c.bring.new.into c.as_slice-at.ensures c.requires.lies (fits.fits c.bring.new.into many) }

pub returns-in-Ok-clause-made : goal.returns-in-Ok-clause-made
returns-in-Ok-clause-made c = λ own same stands.
    let g = setting_of c.args.job.now in
    let block = c.args.block.now in
    let fits = c.requires.fits in
    let many : length c.bring.new.into ≡ volume_now g.spaces c.args.values.now block.at =
    brought_long c.needs_old-needed.result c.in-Ok.words.now c.args.into.now c.bring.new.into (volume_now g.spaces c.args.values.now block.at) c.bring.ensures
    (λ asked. old_many g fits.own block c.needs_old-needed.result c.in-Ok.words.now (volume_now g.spaces c.args.values.now block.at)
    (found_ok (old_words g fits.own block c.needs_old-needed.result (array_kind g block.array)) c.old.result c.in-Ok.words c.in-Ok.is (c.old.ensures.ok fits.own fits.indices fits.blocks)) fits.long asked)
    c.requires.long in
    made_here g own block c.args.op (side_of c.args.side.now) c.args.values.now c.as_slice-at.result.now (extents_of c.args.extents.now) c.in-Ok.words.now c.args.into.now c.bring.new.into c.assign.new.into c.needs_old-needed.result
    same c.as_slice-at.ensures c.requires.lies c.bring.ensures c.needs_old-needed.ensures
    (found_ok (old_words g own block c.needs_old-needed.result (array_kind g block.array)) c.old.result c.in-Ok.words c.in-Ok.is (c.old.ensures.ok own same stands))
    (fits.fits c.bring.new.into many) c.assign.ensures.value

pub returns-in-Err-clause-made : goal.returns-in-Err-clause-made
returns-in-Err-clause-made c = λ own same stands.
    let g = setting_of c.args.job.now in
    let block = c.args.block.now in
    made_trap g own block c.args.op (side_of c.args.side.now) c.in-Err.kind c.needs_old-needed.result
    (c.needs_old-needed.ensures ∙ ap (λ (a : List ℕ). step.needs_old c.args.op || is_insertion g.spaces a (side_of c.args.side.now)) c.as_slice-at.ensures)
    (found_err (old_words g own block c.needs_old-needed.result (array_kind g block.array)) c.old.result c.in-Err.kind c.in-Err.is (c.old.ensures.err own same stands))
