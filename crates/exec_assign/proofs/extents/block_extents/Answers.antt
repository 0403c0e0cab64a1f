use Rattle.std.proofs.Common.{length, sym}
use Rattle.sip_setting.specs.Seen.{setting_of}
use Rattle.exec_assign.proofs.ExtentLemmas.{cut_here, few_at, front_len, lies_front}
use Rattle.exec_assign.proofs.extents.block_extents.Goals as goal

pub slice_bounds-extents-end : goal.slice_bounds-extents-end
slice_bounds-extents-end c = few_at (setting_of c.args.job.now) c.args.values.now c.args.block.now c.as_slice-at.result.now c.spaces-spaces.ensures.sound c.requires c.as_slice-at.ensures

pub slice_bounds-lying-end : goal.slice_bounds-lying-end
slice_bounds-lying-end c =
    front_len _ (length c.as_slice-at.result.now)
    (few_at (setting_of c.args.job.now) c.args.values.now c.args.block.now c.as_slice-at.result.now c.spaces-spaces.ensures.sound c.requires c.as_slice-at.ensures)

pub extents_now-requires-clause-len : goal.extents_now-requires-clause-len
extents_now-requires-clause-len c =
    sym
    (front_len _ (length c.as_slice-at.result.now)
    (few_at (setting_of c.args.job.now) c.args.values.now c.args.block.now c.as_slice-at.result.now c.spaces-spaces.ensures.sound c.requires c.as_slice-at.ensures))

pub extents_now-requires-clause-cut : goal.extents_now-requires-clause-cut
extents_now-requires-clause-cut c =
    cut_here (setting_of c.args.job.now) c.spaces-spaces.result.now.spaces c.indices-indices.result.now c.spaces-spaces.ensures.sound c.spaces-spaces.ensures.spaces c.indices-indices.ensures.value

pub returns : goal.returns
returns c =
    lies_front (setting_of c.args.job.now).spaces c.spaces-spaces.result.now.spaces c.args.values.now c.args.block.now c.as_slice-at.result.now c.extents_now.new.into _ c.spaces-spaces.ensures.spaces c.as_slice-at.ensures c.extents_now.ensures
