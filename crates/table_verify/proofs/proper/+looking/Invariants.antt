use Rattle.std.proofs.Common.{◌≡◌, drop}
use Rattle.sial_syntax.specs.Proper as spec
use Rattle.sial_syntax.specs.Tree.{block, tree}
use Rattle.table_verify.specs.Numbers.{body_numbers}
use Rattle.table_verify.proofs.proper.+looking.Given as goal

abbrev pub invariant-has_body-loop-stmt : goal.invariant-has_body-loop-stmt
invariant-has_body-loop-stmt l = record {
  value : spec.proper_body (tree l.program) (block (drop l.stmt-index l.stmts)) ≡ spec.proper_body (tree l.program) (block l.stmts);
  numbers : body_numbers (block (drop l.stmt-index l.stmts)) ≡ body_numbers (block l.stmts);
}
