use Rattle.std.proofs.Common.{◌≡◌}
use Rattle.sip_setting.specs.Seen.{setting_of}
use Rattle.exec_blocks.specs.Clearing.{Forgets}
use Rattle.exec_blocks.specs.Standing.{AreIn}
use Rattle.exec_blocks.proofs.blocks.Blocks.unset_locals.Given as goal

-- the arrays up to here were looked at
abbrev pub invariant-loop-array : goal.invariant-loop-array
invariant-loop-array l = record {
  forgets : Forgets (setting_of l.job) l.fn.self l.fn.pool l.pool l.fn.self.seats l.self.seats l.array;
  stands : AreIn (setting_of l.job) l.pool l.self;
  same : l.self ≡ record l.fn.self { seats = l.self.seats };
}
