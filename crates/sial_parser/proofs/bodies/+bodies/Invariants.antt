use Rattle.std.proofs.Common.{◌≡◌, ◌+◌, ◌-◌, ◌*◌, ◌≤◌, map}
use Rattle.sial_syntax.specs.Tree.{plain_stmt}
use Rattle.sial_parser.specs.Inners.{inner}
use Rattle.sial_parser.specs.Names.{seen}
use Rattle.sial_parser.specs.Parsing as spec
use Rattle.sial_parser.proofs.bodies.+bodies.Given as goal

-- a statement within has one less depth for its bodies
abbrev pub decreases-other_statement : goal.decreases-other_statement
decreases-other_statement l = 8 * l.depth

abbrev pub decreases-statement : goal.decreases-statement
decreases-statement l = 8 * l.depth + 1

abbrev pub decreases-turn_of : goal.decreases-turn_of
decreases-turn_of l = 8 * l.depth + 2

abbrev pub decreases-body : goal.decreases-body
decreases-body l = 8 * l.depth + 3

abbrev pub decreases-loop_body : goal.decreases-loop_body
decreases-loop_body l = 8 * l.depth + 4

abbrev pub decreases-do_at : goal.decreases-do_at
decreases-do_at l = 8 * l.depth + 5

abbrev pub decreases-pardo_at : goal.decreases-pardo_at
decreases-pardo_at l = 8 * l.depth + 5

abbrev pub decreases-if_at : goal.decreases-if_at
decreases-if_at l = 8 * l.depth + 5

abbrev pub decreases-compound : goal.decreases-compound
decreases-compound l = 8 * l.depth + 6

-- the statements so far, and those that are left
abbrev pub invariant-body-loop-turn : goal.invariant-body-loop-turn
invariant-body-loop-turn l = record {
  meaning : spec.turns (spec.statement l.strict (seen l.names) (inner l.depth l.strict (seen l.names))) (l.most + 1 - l.turn) (map plain_stmt l.stmts.items) l.left l.rest ≡ spec.body l.depth l.strict (seen l.names) l.most l.words;
  fewer : l.left ≤ l.most;
}
