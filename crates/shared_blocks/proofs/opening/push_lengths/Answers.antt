use Rattle.std.proofs.Common.{arith}
use Rattle.sip_setting.specs.Seen.{setting_of}
use Rattle.sial_meaning.specs.Setting.{block_count, block_words}
use Rattle.shared_blocks.proofs.FlatLemmas.{entry-taken}
use Rattle.shared_blocks.proofs.opening.push_lengths.Goals as goal

pub loop-number-preserved : goal.loop-number-preserved
loop-number-preserved c =
    let g = setting_of c.args.job.now in
    entry-taken (block_words g c.args.array) c.loop-number.number (block_count g c.args.array) c.loop-number.lengths.items c.push.new.self.items _ c.block_len.result (omega (arith, c.loop-number-test.true, c.block_count-number-end.ensures))
    c.in_ok-push.ensures.items c.block_len.ensures c.loop-number.invariant
