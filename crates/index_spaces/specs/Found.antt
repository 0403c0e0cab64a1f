-- Refusals as the code finds them, with names that are still those of the program or the input.
use Rattle.std.specs.Prelude.{Option, option_map}
use Rattle.index_spaces.specs.declared.fault.Found.{Found}
use Rattle.index_spaces.specs.declared.fault.Refusal.{Refusal}
use Rattle.index_spaces.specs.declared.fault.SpaceFault.{SpaceFault}
use Rattle.index_spaces.specs.Refusing.{AtLine}

-- the fault that a refusal is
abbrev pub fault_of : Refusal → SpaceFault
fault_of r = record { kind = r.kind; name = r.name.now; value = r.value }

-- a refusal that was found, if any
abbrev pub seen : Option Refusal → Option SpaceFault
seen found = option_map fault_of found

-- a refusal with its line
abbrev pub at_line : Found → AtLine
at_line f = record { line = f.line; fault = fault_of f.refusal }

-- the same, if one was found
abbrev pub seen_at : Option Found → Option AtLine
seen_at found = option_map at_line found
