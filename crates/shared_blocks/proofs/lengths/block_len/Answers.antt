use Rattle.std.proofs.Common.{[], ◌∷◌, sym}
use Rattle.std.proofs.lemmas.List.{length-take-le}
use Rattle.sip_setting.specs.Seen.{setting_of}
use Rattle.exec_blocks.proofs.LengthLemmas.{dims-few, length-is, tuple-among, rank-fits}
use Rattle.shared_blocks.proofs.lengths.block_len.Goals as goal

pub slice_bounds-numbers-end : goal.slice_bounds-numbers-end
slice_bounds-numbers-end c =
    dims-few (setting_of c.args.job.now) c.spaces-spaces.result.now c.dims-dims.result.now c.args.array c.spaces-spaces.ensures.sound c.spaces-spaces.ensures.arrays c.dims-dims.ensures

pub slice_bounds-tuple-end : goal.slice_bounds-tuple-end
slice_bounds-tuple-end c =
    sym (length-take-le _ (0 ∷ 0 ∷ 0 ∷ 0 ∷ 0 ∷ 0 ∷ [])
    (dims-few (setting_of c.args.job.now) c.spaces-spaces.result.now c.dims-dims.result.now c.args.array c.spaces-spaces.ensures.sound c.spaces-spaces.ensures.arrays c.dims-dims.ensures))

pub tuple_at-requires-clause-len : goal.tuple_at-requires-clause-len
tuple_at-requires-clause-len c =
    length-take-le _ _
    (dims-few (setting_of c.args.job.now) c.spaces-spaces.result.now c.dims-dims.result.now c.args.array c.spaces-spaces.ensures.sound c.spaces-spaces.ensures.arrays c.dims-dims.ensures)

pub tuple_at-requires-clause-within : goal.tuple_at-requires-clause-within
tuple_at-requires-clause-within c =
    rank-fits (setting_of c.args.job.now) c.spaces-spaces.result.now c.dims-dims.result.now c.args.array c.args.number c.spaces-spaces.ensures.spaces c.spaces-spaces.ensures.arrays c.dims-dims.ensures c.requires.below

pub block_words-requires : goal.block_words-requires
block_words-requires c =
    tuple-among (setting_of c.args.job.now) c.spaces-spaces.result.now c.dims-dims.result.now _ c.args.array c.args.number c.spaces-spaces.ensures.sound c.spaces-spaces.ensures.spaces c.spaces-spaces.ensures.arrays c.dims-dims.ensures
    c.tuple_at.ensures c.requires.counted c.requires.below

pub returns : goal.returns
returns c =
    length-is (setting_of c.args.job.now) c.spaces-spaces.result.now c.dims-dims.result.now _ c.args.array c.args.number _ c.spaces-spaces.ensures.sound c.spaces-spaces.ensures.spaces c.spaces-spaces.ensures.arrays c.dims-dims.ensures
    c.tuple_at.ensures c.requires.counted c.requires.below c.block_words.ensures
