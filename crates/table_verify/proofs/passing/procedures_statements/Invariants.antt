use Rattle.std.proofs.Common.{◌≡◌, ◌+◌, drop, map}
use Rattle.std.specs.Prelude.{sum_by}
use Rattle.sial_syntax.specs.Numbering.{statements}
use Rattle.sial_syntax.specs.Tree.{procedure}
use Rattle.table_verify.proofs.passing.procedures_statements.Given as goal

abbrev pub invariant-loop-procedure : goal.invariant-loop-procedure
invariant-loop-procedure l =
    l.sum + sum_by (λ q. statements q.body) (map procedure (drop l.procedure-index l.procedures)) ≡ sum_by (λ q. statements q.body) (map procedure l.procedures)
