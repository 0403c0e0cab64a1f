-- How the code goes through the nesting of code.
use Rattle.std.specs.Prelude.{◌≡◌, Bool, true, false, Option, Some, None}
use Rattle.table_verify.specs.declared.nest.Nest as code
use Rattle.table_verify.specs.Nesting.{Nest}

-- what the code has of it
abbrev pub seen : code.Nest → Nest
seen n = record { stack = n.stack.items; heading = n.heading; stop = n.stop; returns = n.returns }

-- a step is told by whether there was one, and what is there then
abbrev pub Goes : Bool → Option Nest → Nest → Type 0
Goes true to new = to ≡ Some new
Goes false to new = to ≡ None
