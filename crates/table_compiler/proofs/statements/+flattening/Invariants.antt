use Rattle.std.proofs.Common.{◌+◌, ◌*◌, drop, max}
use Rattle.sial_syntax.specs.Tree.{block}
use Rattle.table_compiler.specs.Left.{LeadsTo}
use Rattle.table_compiler.proofs.statements.+flattening.Given as goal

abbrev pub invariant-body-loop-stmt : goal.invariant-body-loop-stmt
invariant-body-loop-stmt l = LeadsTo l.entries l.flat l.fn.flat (block (drop l.stmt-index l.stmts)) (block l.stmts)

abbrev pub decreases-body : goal.decreases-body
decreases-body l = 3 * goal.size-body l

abbrev pub decreases-branch : goal.decreases-branch
decreases-branch l = 3 * goal.size-branch l + 1

-- the deeper of both branches
abbrev pub decreases-branches : goal.decreases-branches
decreases-branches l = 3 * max (goal.size-branches l) (goal.size-branches (record l { stmts = l.other })) + 1

abbrev pub decreases-over_pieces : goal.decreases-over_pieces
decreases-over_pieces l = 3 * goal.size-over_pieces l + 1

abbrev pub decreases-over_segments : goal.decreases-over_segments
decreases-over_segments l = 3 * goal.size-over_segments l + 1

abbrev pub decreases-pardo : goal.decreases-pardo
decreases-pardo l = 3 * goal.size-pardo l + 1

abbrev pub decreases-statement : goal.decreases-statement
decreases-statement l = 3 * goal.size-statement l + 2
