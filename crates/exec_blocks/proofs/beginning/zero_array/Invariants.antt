use Rattle.sip_setting.specs.Seen.{setting_of}
use Rattle.exec_blocks.proofs.BeginLemmas.{Zeroing}
use Rattle.exec_blocks.proofs.beginning.zero_array.Given as goal

-- the blocks up to here are zeros
abbrev pub invariant-loop-number : goal.invariant-loop-number
invariant-loop-number l = Zeroing (setting_of l.job) l.fn.pool l.fn.seats l.pool l.seats l.array l.number
