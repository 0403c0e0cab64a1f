-- A count for each kind of call.
use Rattle.std.specs.Prelude.{ℕ}
use Rattle.sip_files.specs.declared.call.Call.{Call}
use Rattle.sip_files.specs.declared.call.Call.TheVariants.{Load, Clear, Append, ReadAt, WriteAt}
use Rattle.sip_files.specs.Files.{one_more}
use Rattle.sip_files.specs.declared.counts.Counts.{Counts}

-- the count of one kind
abbrev pub count_of : Counts → Call → ℕ
count_of counts Load = counts.load
count_of counts Clear = counts.clear
count_of counts Append = counts.append
count_of counts ReadAt = counts.read_at
count_of counts WriteAt = counts.write_at

-- one more of a kind
abbrev pub with_one_more : Counts → Call → Counts
with_one_more counts Load = record counts { load = one_more counts.load }
with_one_more counts Clear = record counts { clear = one_more counts.clear }
with_one_more counts Append = record counts { append = one_more counts.append }
with_one_more counts ReadAt = record counts { read_at = one_more counts.read_at }
with_one_more counts WriteAt = record counts { write_at = one_more counts.write_at }

-- no call failed
abbrev pub no_faults : Counts
no_faults = record { load = 0; clear = 0; append = 0; read_at = 0; write_at = 0 }

-- what the host's files count: faults of each kind, loads that came, and loads that refused a file as too long
pub record HostCounts : Type 0 where
  pub faults : Counts
  pub came : ℕ
  pub overlong : ℕ
