use Rattle.std.proofs.Common.{drop, map}
use Rattle.sip_setting.specs.Given.{given}
use Rattle.sip_setting.specs.Seen.{setting_of}
use Rattle.index_spaces.specs.Starting.{given_of}
use Rattle.shared_blocks.proofs.StartLemmas.{Starting}
use Rattle.shared_blocks.proofs.starting.put_given.Given as goal

-- the given blocks from here on are left
abbrev pub invariant-loop-block : goal.invariant-loop-block
invariant-loop-block l = Starting (setting_of l.job) l.fn.served l.served (map given (map given_of (drop l.block-index l.blocks)))
