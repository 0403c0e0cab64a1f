use Rattle.std.proofs.Common.{◌≡◌, ◌+◌, drop}
use Rattle.sial_syntax.specs.Numbering.{statements}
use Rattle.sial_syntax.specs.Tree.{block}
use Rattle.table_verify.proofs.passing.+counting.Given as goal

abbrev pub invariant-statements-loop-stmt : goal.invariant-statements-loop-stmt
invariant-statements-loop-stmt l = l.sum + statements (block (drop l.stmt-index l.stmts)) ≡ statements (block l.stmts)
