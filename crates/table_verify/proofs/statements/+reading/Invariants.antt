use Rattle.std.proofs.Common.{◌≡◌, ◌+◌, ◌-◌, ◌*◌, map}
use Rattle.sial_syntax.specs.Tree.{plain_stmt}
use Rattle.table_verify.specs.Rest.{seen}
use Rattle.table_verify.specs.Statements as spec
use Rattle.table_verify.proofs.statements.+reading.Given as goal

abbrev pub decreases-body : goal.decreases-body
decreases-body l = 8 * l.depth + 7

abbrev pub decreases-inner : goal.decreases-inner
decreases-inner l = 8 * l.depth

abbrev pub decreases-statement : goal.decreases-statement
decreases-statement l = 8 * l.depth + 6

abbrev pub decreases-form : goal.decreases-form
decreases-form l = 8 * l.depth + 5

abbrev pub decreases-over_segments : goal.decreases-over_segments
decreases-over_segments l = 8 * l.depth + 4

abbrev pub decreases-over_pieces : goal.decreases-over_pieces
decreases-over_pieces l = 8 * l.depth + 4

abbrev pub decreases-pardo : goal.decreases-pardo
decreases-pardo l = 8 * l.depth + 4

abbrev pub decreases-branch : goal.decreases-branch
decreases-branch l = 8 * l.depth + 4

abbrev pub decreases-after_branch : goal.decreases-after_branch
decreases-after_branch l = 8 * l.depth + 3

abbrev pub decreases-second : goal.decreases-second
decreases-second l = 8 * l.depth + 2

-- the statements so far, and the turns that are left
abbrev pub invariant-body-loop-turn : goal.invariant-body-loop-turn
invariant-body-loop-turn l =
    spec.turns l.whole.entries.now l.whole.len (spec.within l.whole l.depth) (l.whole.len - l.turn) (map plain_stmt l.stmts.items) (seen l.rest) ≡ spec.body l.whole.entries.now l.whole.len l.depth (seen l.start)
