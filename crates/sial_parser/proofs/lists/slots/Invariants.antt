use Rattle.std.proofs.Common.{◌≡◌, ◌-◌, []}
use Rattle.sial_parser.specs.Names.{seen}
use Rattle.sial_parser.specs.Parsing as spec
use Rattle.sial_parser.proofs.lists.slots.Given as goal

-- the slots so far, and those that are left
abbrev pub invariant-loop-turn : goal.invariant-loop-turn
invariant-loop-turn l = spec.slots (seen l.names) (l.most - l.turn) l.slots.items l.rest ≡ spec.slots (seen l.names) l.most [] l.words
