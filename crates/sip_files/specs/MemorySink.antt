-- What a contract sees of a sink in memory.
use Rattle.std.specs.Prelude.{ℕ, List, [], ◌++◌}
use Rattle.sip_files.specs.Files.{one_more}
use Rattle.sip_files.specs.Plan.{Planned, unplanned, after_call, after_refusal}

-- all that was written, planned faults, and the count of growths that found no memory
pub record SinkInMemory : Type 0 where
  pub bytes : List ℕ
  pub plan : Planned
  pub refused : ℕ

-- nothing written, and nothing planned
abbrev pub nothing_written : SinkInMemory
nothing_written = record { bytes = []; plan = unplanned; refused = 0 }

-- after a write of these bytes
abbrev pub after_write : SinkInMemory → List ℕ → SinkInMemory
after_write sink bytes = record { bytes = sink.bytes ++ bytes; plan = after_call sink.plan; refused = sink.refused }

-- after a write that was planned to fail
abbrev pub after_planned : SinkInMemory → SinkInMemory
after_planned sink = record sink { plan = after_call sink.plan }

-- after a write whose growth found no memory
abbrev pub after_refused : SinkInMemory → SinkInMemory
after_refused sink = record { bytes = sink.bytes; plan = after_refusal (after_call sink.plan); refused = one_more sink.refused }
