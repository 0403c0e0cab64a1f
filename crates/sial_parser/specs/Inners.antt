-- How the bodies of a statement are read where so many may nest.
use Rattle.std.specs.Prelude.{ℕ, zero, suc, Bool, Option, Some, None}
use Rattle.sial_parser.specs.Parsing.{Inner, body}
use Rattle.sial_parser.specs.Scope.{Scope}

-- none where none may nest
abbrev pub inner : (depth : ℕ) → (strict : Bool) → Scope → Option Inner
inner zero strict s = None
inner (suc d) strict s = Some (body d strict s)
