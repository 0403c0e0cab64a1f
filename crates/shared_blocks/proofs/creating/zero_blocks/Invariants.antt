use Rattle.sip_setting.specs.Seen.{setting_of}
use Rattle.shared_blocks.proofs.ZeroLemmas.{Zeroing}
use Rattle.shared_blocks.proofs.creating.zero_blocks.Given as goal

-- the blocks up to here are zeros
abbrev pub invariant-loop-number : goal.invariant-loop-number
invariant-loop-number l = Zeroing (setting_of l.job) l.array l.fn.blocks l.blocks l.number
