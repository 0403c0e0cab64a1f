use Rattle.std.proofs.Common.{◌≡◌, ◌+◌, ◌<◌, ap, ◌∙◌, arith}
use Rattle.sip_setting.specs.Seen.{setting_of}
use Rattle.sial_meaning.specs.Setting.{block_count, block_words, first_of_class}
use Rattle.exec_blocks.specs.Starting.{static_at}
use Rattle.exec_blocks.proofs.BeginLemmas.{place-in, place-room, static-within, zeroing-all, zeroing-none, zeroing-one}
use Rattle.exec_blocks.proofs.SettingLemmas.{count-is, first-is}
use Rattle.exec_blocks.proofs.beginning.zero_array.Goals as goal

pub loop-number-init : goal.loop-number-init
loop-number-init c = zeroing-none (setting_of c.args.job.now) c.args.pool.now c.args.seats.now c.args.array c.requires.room

pub overflow_add-first : goal.overflow_add-first
overflow_add-first c =
    let g = setting_of c.args.job.now in
    let s = c.spaces-spaces.result.now in
    let first : c.first_block-first.result ≡ first_of_class g c.args.array = c.first_block-first.ensures ∙ first-is g s c.args.array c.spaces-spaces.ensures.spaces c.spaces-spaces.ensures.arrays in
    let count : c.blocks_of-number-end.result ≡ block_count g c.args.array = c.blocks_of-number-end.ensures ∙ count-is g s c.args.array c.spaces-spaces.ensures.spaces c.spaces-spaces.ensures.arrays in
    let under = static-within g c.args.array c.loop-number.number c.requires.fixed (omega (arith, count, c.loop-number-test.true)) in
    omega (arith, first, under, c.requires.room.within, c.len-places.ensures, c.len-places.type_inv)

pub zero_block-requires-clause-below : goal.zero_block-requires-clause-below
zero_block-requires-clause-below c =
    let g = setting_of c.args.job.now in
    let s = c.spaces-spaces.result.now in
    let count : c.blocks_of-number-end.result ≡ block_count g c.args.array = c.blocks_of-number-end.ensures ∙ count-is g s c.args.array c.spaces-spaces.ensures.spaces c.spaces-spaces.ensures.arrays in
    omega (arith, count, c.loop-number-test.true)

pub zero_block-requires-clause-at : goal.zero_block-requires-clause-at
zero_block-requires-clause-at c =
    let g = setting_of c.args.job.now in
    let s = c.spaces-spaces.result.now in
    let first : c.first_block-first.result ≡ first_of_class g c.args.array = c.first_block-first.ensures ∙ first-is g s c.args.array c.spaces-spaces.ensures.spaces c.spaces-spaces.ensures.arrays in
    let count : c.blocks_of-number-end.result ≡ block_count g c.args.array = c.blocks_of-number-end.ensures ∙ count-is g s c.args.array c.spaces-spaces.ensures.spaces c.spaces-spaces.ensures.arrays in
    place-in g c.loop-number.pool c.loop-number.seats c.args.array c.loop-number.number (c.first_block-first.result + c.loop-number.number) c.requires.fixed (omega (arith, count, c.loop-number-test.true))
    (ap (λ n. n + c.loop-number.number) first) c.loop-number.invariant.room

pub zero_block-requires-clause-wide : goal.zero_block-requires-clause-wide
zero_block-requires-clause-wide c =
    let g = setting_of c.args.job.now in
    let s = c.spaces-spaces.result.now in
    let count : c.blocks_of-number-end.result ≡ block_count g c.args.array = c.blocks_of-number-end.ensures ∙ count-is g s c.args.array c.spaces-spaces.ensures.spaces c.spaces-spaces.ensures.arrays in
    c.loop-number.invariant.wide (block_words g c.args.array c.loop-number.number) (c.requires.wide c.args.array c.loop-number.number c.requires.fixed (omega (arith, count, c.loop-number-test.true)))

pub zero_block-requires-clause-room : goal.zero_block-requires-clause-room
zero_block-requires-clause-room c =
    let g = setting_of c.args.job.now in
    let s = c.spaces-spaces.result.now in
    let first : c.first_block-first.result ≡ first_of_class g c.args.array = c.first_block-first.ensures ∙ first-is g s c.args.array c.spaces-spaces.ensures.spaces c.spaces-spaces.ensures.arrays in
    let count : c.blocks_of-number-end.result ≡ block_count g c.args.array = c.blocks_of-number-end.ensures ∙ count-is g s c.args.array c.spaces-spaces.ensures.spaces c.spaces-spaces.ensures.arrays in
    place-room g c.loop-number.pool c.loop-number.seats c.args.array c.loop-number.number (c.first_block-first.result + c.loop-number.number) c.requires.fixed (omega (arith, count, c.loop-number-test.true))
    (ap (λ n. n + c.loop-number.number) first) c.loop-number.invariant.room

pub loop-number-preserved : goal.loop-number-preserved
loop-number-preserved c =
    let g = setting_of c.args.job.now in
    let s = c.spaces-spaces.result.now in
    let first : c.first_block-first.result ≡ first_of_class g c.args.array = c.first_block-first.ensures ∙ first-is g s c.args.array c.spaces-spaces.ensures.spaces c.spaces-spaces.ensures.arrays in
    let count : c.blocks_of-number-end.result ≡ block_count g c.args.array = c.blocks_of-number-end.ensures ∙ count-is g s c.args.array c.spaces-spaces.ensures.spaces c.spaces-spaces.ensures.arrays in
    zeroing-one g c.args.pool.now c.args.seats.now c.loop-number.seats c.zero_block.new.seats c.args.array c.loop-number.number (c.first_block-first.result + c.loop-number.number) c.requires.fixed (omega (arith, count, c.loop-number-test.true))
    (ap (λ n. n + c.loop-number.number) first) c.loop-number.invariant c.zero_block.ensures

pub returns-clause-opens : goal.returns-clause-opens
returns-clause-opens c = c.loop-number.invariant.opens

pub returns-clause-zeros : goal.returns-clause-zeros
returns-clause-zeros c =
    let g = setting_of c.args.job.now in
    let s = c.spaces-spaces.result.now in
    let count : c.blocks_of-number-end.result ≡ block_count g c.args.array = c.blocks_of-number-end.ensures ∙ count-is g s c.args.array c.spaces-spaces.ensures.spaces c.spaces-spaces.ensures.arrays in
    zeroing-all g c.args.pool.now c.args.seats.now c.loop-number.seats c.args.array c.loop-number.number (omega (arith, count, c.loop-number-test.false)) c.loop-number.invariant
