use Rattle.std.proofs.Common.{◌≡◌, ◌-◌, []}
use Rattle.sial_parser.specs.Closings.{closing_of}
use Rattle.sial_parser.specs.Names.{seen}
use Rattle.sial_parser.specs.Parsing as spec
use Rattle.sial_parser.proofs.lists.indices.Given as goal

-- the indices so far, and those that are left
abbrev pub invariant-loop-turn : goal.invariant-loop-turn
invariant-loop-turn l = spec.indices (seen l.names) (closing_of l.closing) (l.most - l.turn) l.numbers.items l.rest ≡ spec.indices (seen l.names) (closing_of l.closing) l.most [] l.words
