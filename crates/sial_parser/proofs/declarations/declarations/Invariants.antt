use Rattle.std.proofs.Common.{◌≡◌, ◌-◌}
use Rattle.sial_parser.specs.Names.{kept}
use Rattle.sial_parser.specs.Parsing as spec
use Rattle.sial_parser.specs.Scope.{nothing}
use Rattle.sial_parser.proofs.declarations.declarations.Given as goal

-- what is declared so far, and what is left
abbrev pub invariant-loop-turn : goal.invariant-loop-turn
invariant-loop-turn l = spec.declarations (769 - l.turn) (kept l.declared) l.rest ≡ spec.declarations 769 nothing l.words
