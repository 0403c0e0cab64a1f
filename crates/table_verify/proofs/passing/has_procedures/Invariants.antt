use Rattle.std.proofs.Common.{◌≡◌, drop, map}
use Rattle.std.specs.List.{list_all}
use Rattle.sial_syntax.specs.Tree.{procedure, tree}
use Rattle.table_verify.specs.Passing as spec
use Rattle.table_verify.proofs.passing.has_procedures.Given as goal

abbrev pub invariant-loop-procedure : goal.invariant-loop-procedure
invariant-loop-procedure l = record {
  value : list_all (spec.passes_procedure (tree l.program)) (map procedure (drop l.procedure-index l.procedures)) ≡ list_all (spec.passes_procedure (tree l.program)) (map procedure l.procedures);
  numbers : spec.procedures_numbers (map procedure (drop l.procedure-index l.procedures)) ≡ spec.procedures_numbers (map procedure l.procedures);
}
