use Rattle.std.proofs.Common.{◌≡◌, ◌++◌, drop, map}
use Rattle.sial_syntax.specs.Tree.{procedure}
use Rattle.sip_tables.specs.Code.{entries_from}
use Rattle.table_compiler.proofs.entries.entries.Given as goal

abbrev pub invariant-loop-procedure : goal.invariant-loop-procedure
invariant-loop-procedure l = l.entries.items ++ entries_from l.next (map procedure (drop l.procedure-index l.procedures)) ≡ entries_from l.at (map procedure l.procedures)
