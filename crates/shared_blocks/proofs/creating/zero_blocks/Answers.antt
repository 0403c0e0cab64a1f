use Rattle.std.proofs.Common.{◌+◌, ◌<◌, ℕ, List, [], length, replicate, slice_index_or, refl, sym, ap, subst, arith}
use Rattle.sip_setting.specs.Seen.{setting_of}
use Rattle.sial_syntax.specs.declared.array.ArrayKind.TheVariants.{Distributed}
use Rattle.sial_meaning.specs.Setting.{block_count}
use Rattle.shared_blocks.proofs.SetLemmas.{within}
use Rattle.shared_blocks.proofs.ZeroLemmas.{Zeroing, zeroing-one}
use Rattle.shared_blocks.proofs.creating.zero_blocks.Goals as goal

pub zero_block-requires : goal.zero_block-requires
zero_block-requires c =
    let g = setting_of c.args.job.now in
    let below : c.loop-number.number < block_count g c.args.array = omega (arith, c.loop-number-test.true, c.block_count-number-end.ensures) in
    let inside = within g Distributed c.loop-number.blocks c.args.array c.loop-number.number refl c.requires.kind below c.loop-number.invariant.whole in
    omega (arith, inside, c.first_block-first.ensures.value)

pub loop-number-preserved : goal.loop-number-preserved
loop-number-preserved c =
    let g = setting_of c.args.job.now in
    let below : c.loop-number.number < block_count g c.args.array = omega (arith, c.loop-number-test.true, c.block_count-number-end.ensures) in
    let held : List ℕ = slice_index_or c.loop-number.blocks (c.first_block-first.result + c.loop-number.number) [] in
    subst (λ (blocks : List (List ℕ)). Zeroing g c.args.array c.args.blocks.now blocks (c.loop-number.number + 1)) (sym c.zero_block.ensures)
    (zeroing-one g c.args.array c.args.blocks.now c.loop-number.blocks c.loop-number.number (c.first_block-first.result + c.loop-number.number) held (replicate (length held) 0) c.requires.kind below
    (ap (λ n. n + c.loop-number.number) c.first_block-first.ensures.value) refl refl c.loop-number.invariant)
