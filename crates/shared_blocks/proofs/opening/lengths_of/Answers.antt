use Rattle.std.proofs.Common.{length, arith}
use Rattle.sip_setting.specs.Seen.{setting_of}
use Rattle.shared_blocks.specs.Lengths.{lengths_if}
use Rattle.shared_blocks.proofs.FlatLemmas.{row-taken}
use Rattle.shared_blocks.proofs.opening.lengths_of.Goals as goal

pub loop-array-preserved : goal.loop-array-preserved
loop-array-preserved c =
    let g = setting_of c.args.job.now in
    row-taken (lengths_if g c.args.kind) c.loop-array.array (length g.program.arrays) c.loop-array.lengths.items c.push_if.new.lengths.items _ (omega (arith, c.loop-array-test.true, c.arrays_len-array-end.ensures.count))
    c.in_ok-push_if.ensures c.loop-array.invariant
