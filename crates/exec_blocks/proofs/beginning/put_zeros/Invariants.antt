use Rattle.std.proofs.Common.{length}
use Rattle.sip_setting.specs.Seen.{setting_of}
use Rattle.exec_blocks.specs.Starting.{AreZeros, Opens}
use Rattle.exec_blocks.proofs.beginning.put_zeros.Given as goal

-- the arrays up to here have their zeros
abbrev pub invariant-loop-array : goal.invariant-loop-array
invariant-loop-array l = record {
  opens : Opens (setting_of l.job) l.fn.pool l.pool (length l.fn.seats.slots) l.seats;
  zeros : AreZeros (setting_of l.job) l.pool l.seats l.array;
}
