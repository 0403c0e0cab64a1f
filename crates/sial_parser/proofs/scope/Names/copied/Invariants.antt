use Rattle.std.proofs.Common.{◌≡◌, ◌++◌, map}
use Rattle.sial_parser.specs.Names as spec
use Rattle.sial_parser.proofs.scope.Names.copied.Given as goal

-- the names so far, and those that are left
abbrev pub invariant-loop-name : goal.invariant-loop-name
invariant-loop-name l = spec.seen l.names ++ map spec.entry l.name-iterator ≡ spec.seen l.fn.self
