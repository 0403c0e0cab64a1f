-- What the code keeps of names, and of what is declared.
use Rattle.std.specs.Prelude.{ℕ, map}
use Rattle.std.specs.Global.{Vec}
use Rattle.sial_parser.specs.Scope as scope
use Rattle.sial_parser.specs.Scope.{Scope, Entry}
use Rattle.sial_parser.specs.declared.declarations.Declared.{Declared}
use Rattle.sial_parser.specs.declared.scope.Names.{Names}
use Rattle.sial_parser.specs.declared.thing.Thing.{Thing}

-- an entry as it is kept
abbrev pub entry : Vec ℕ × Thing → Entry
entry e = record { name = e.0.items; thing = e.1 }

-- the entries
abbrev pub seen : Names → Scope
seen names = map entry names.things.entries

-- names with the lists of what they are
abbrev pub kept : Declared → scope.Declared
kept d = record { scope = seen d.names; indices = d.indices.items; arrays = d.arrays.items; scalars = d.scalars.items }
