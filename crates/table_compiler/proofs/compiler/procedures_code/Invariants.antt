use Rattle.std.proofs.Common.{drop, map}
use Rattle.sial_syntax.specs.Tree.{procedure}
use Rattle.table_compiler.specs.Left.{ProceduresLeadTo}
use Rattle.table_compiler.proofs.compiler.procedures_code.Given as goal

abbrev pub invariant-loop-procedure : goal.invariant-loop-procedure
invariant-loop-procedure l = ProceduresLeadTo l.entries l.flat l.fn.flat (map procedure (drop l.procedure-index l.procedures)) (map procedure l.procedures)
