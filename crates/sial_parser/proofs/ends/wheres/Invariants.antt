use Rattle.std.proofs.Common.{◌≡◌, ◌+◌, ◌-◌, [], length}
use Rattle.sial_parser.specs.Names.{seen}
use Rattle.sial_parser.specs.Parsing as spec
use Rattle.sial_parser.proofs.ends.wheres.Given as goal

-- the conditions so far, and those that are left
abbrev pub invariant-loop-turn : goal.invariant-loop-turn
invariant-loop-turn l = spec.wheres (seen l.names) (length l.words + 1 - l.turn) l.conds.items l.rest ≡ spec.wheres (seen l.names) (length l.words + 1) [] l.words
