use Rattle.std.proofs.Common.{◌≡◌, ◌++◌, drop}
use Rattle.sip_tables.specs.Code.{wheres_code}
use Rattle.table_compiler.proofs.statements.tests.Given as goal

abbrev pub invariant-loop-cond : goal.invariant-loop-cond
invariant-loop-cond l =
    (l.flat.texts.items ≡ l.fn.flat.texts.items)
    × (l.flat.code.items ++ wheres_code l.line (drop l.cond-index l.wheres) ≡ l.fn.flat.code.items ++ wheres_code l.line l.wheres)
