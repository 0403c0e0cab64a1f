use Rattle.std.proofs.Common.{◌≡◌, drop}
use Rattle.std.specs.List.{flat_map, list_all}
use Rattle.sial_syntax.specs.Parts.{condition_numbers}
use Rattle.sial_syntax.specs.Proper as spec
use Rattle.sial_syntax.specs.Tree.{tree}
use Rattle.table_verify.proofs.parts.has_conditions.Given as goal

abbrev pub invariant-loop-condition : goal.invariant-loop-condition
invariant-loop-condition l = record {
  value : list_all (spec.proper_cond (tree l.program)) (drop l.condition-index l.conditions) ≡ list_all (spec.proper_cond (tree l.program)) l.conditions;
  numbers : list_all spec.is_number (flat_map condition_numbers (drop l.condition-index l.conditions)) ≡ list_all spec.is_number (flat_map condition_numbers l.conditions);
}
