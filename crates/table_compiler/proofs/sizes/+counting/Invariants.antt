use Rattle.std.proofs.Common.{◌≡◌, ◌+◌, drop}
use Rattle.sial_syntax.specs.Numbering.{sizes}
use Rattle.sial_syntax.specs.Tree.{block}
use Rattle.table_compiler.proofs.sizes.+counting.Given as goal

abbrev pub invariant-sizes-loop-stmt : goal.invariant-sizes-loop-stmt
invariant-sizes-loop-stmt l = l.sum + sizes (block (drop l.stmt-index l.stmts)) ≡ sizes (block l.stmts)
