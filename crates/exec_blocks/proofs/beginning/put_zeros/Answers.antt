use Rattle.std.proofs.Common.{length, arith}
use Rattle.sip_setting.specs.Seen.{setting_of}
use Rattle.sial_meaning.specs.Setting.{block_words}
use Rattle.exec_blocks.proofs.BeginLemmas.{opens-none}
use Rattle.exec_blocks.proofs.beginning.put_zeros.Goals as goal

pub loop-array-init : goal.loop-array-init
loop-array-init c = record {
  opens = opens-none (setting_of c.args.job.now) c.args.pool.now c.args.seats.now c.requires.none c.requires.room;
  zeros = λ a n is below low. absurd (omega (arith, low));
}

pub zero_if_static-requires-clause-wide : goal.zero_if_static-requires-clause-wide
zero_if_static-requires-clause-wide c = λ a n is below. c.loop-array.invariant.opens.leaves.wide (block_words (setting_of c.args.job.now) a n) (c.requires.wide a n is below)

pub loop-array-preserved : goal.loop-array-preserved
loop-array-preserved c = record {
  opens = c.zero_if_static.ensures.opens c.args.pool.now (length c.args.seats.now.slots) c.loop-array.invariant.opens;
  zeros = c.zero_if_static.ensures.zeros c.loop-array.invariant.zeros;
}
