-- What a contract sees of files in memory.
use Rattle.std.specs.Prelude.{ℕ, Result}
use Rattle.std.specs.FinMap as map
use Rattle.sip_files.specs.Files.{Folder, one_more, overlong_after}
use Rattle.sip_files.specs.Plan.{Planned, unplanned, with_number, after_call, after_refusal}
use Rattle.sip_files.specs.declared.call.Call.{Call}
use Rattle.sip_files.specs.declared.fault.LoadFault.{LoadFault}
use Rattle.sip_files.specs.declared.call.Call.TheVariants.{Load, Clear, Append, ReadAt, WriteAt}

-- planned faults of each kind of call
pub record Plans : Type 0 where
  pub load : Planned
  pub clear : Planned
  pub append : Planned
  pub read_at : Planned
  pub write_at : Planned

-- bytes by name, planned faults, and the counts of loads that refused a file as too long and of growths that found no memory
pub record FilesInMemory : Type 0 where
  pub files : Folder
  pub plans : Plans
  pub overlong : ℕ
  pub refused : ℕ

-- no file, and nothing planned
abbrev pub no_files : FilesInMemory
no_files = record {
  files = map.empty;
  plans = record { load = unplanned; clear = unplanned; append = unplanned; read_at = unplanned; write_at = unplanned };
  overlong = 0;
  refused = 0;
}

-- the plan of one kind
abbrev pub plan_of : Plans → Call → Planned
plan_of plans Load = plans.load
plan_of plans Clear = plans.clear
plan_of plans Append = plans.append
plan_of plans ReadAt = plans.read_at
plan_of plans WriteAt = plans.write_at

-- plans with one more number for a kind
abbrev pub with_planned : Plans → Call → ℕ → Plans
with_planned plans Load number = record plans { load = with_number plans.load number }
with_planned plans Clear number = record plans { clear = with_number plans.clear number }
with_planned plans Append number = record plans { append = with_number plans.append number }
with_planned plans ReadAt number = record plans { read_at = with_number plans.read_at number }
with_planned plans WriteAt number = record plans { write_at = with_number plans.write_at number }

-- plans with another one for a kind
abbrev pub with_plan : Plans → Call → Planned → Plans
with_plan plans Load planned = record plans { load = planned }
with_plan plans Clear planned = record plans { clear = planned }
with_plan plans Append planned = record plans { append = planned }
with_plan plans ReadAt planned = record plans { read_at = planned }
with_plan plans WriteAt planned = record plans { write_at = planned }

-- after a call of a kind, failed exactly where that was planned
abbrev pub after_met : FilesInMemory → Call → FilesInMemory
after_met memory call = record memory { plans = with_plan memory.plans call (after_call (plan_of memory.plans call)) }

-- after a call of a kind whose growth found no memory
abbrev pub after_refused : FilesInMemory → Call → FilesInMemory
after_refused memory call = record memory {
  plans = with_plan memory.plans call (after_refusal (after_call (plan_of memory.plans call)));
  refused = one_more memory.refused;
}

-- after a call of a kind that left these files
abbrev pub after_writing : FilesInMemory → Call → Folder → FilesInMemory
after_writing memory call files = record (after_met memory call) { files = files }

-- how many calls of a kind failed
abbrev pub faults_of : FilesInMemory → Call → ℕ
faults_of memory call = (plan_of memory.plans call).faults

-- after a load with this answer
abbrev pub after_load : FilesInMemory → Result (Unit {0}) LoadFault → FilesInMemory
after_load memory answer = record memory {
  plans = record memory.plans { load = after_call memory.plans.load };
  overlong = overlong_after memory.overlong answer;
}
