use Rattle.std.proofs.Common.{◌-◌, ◌≤◌}
use Rattle.kernel_contract.specs.Parts.{Replaced}
use Rattle.kernel_contract.specs.Walks.{Stands, count, gone}
use Rattle.kernel_contract.proofs.ContractionLemmas.{target_at, value_at}
use Rattle.kernel_contract.proofs.by_panels.by_panels.Given as goal

abbrev pub invariant-loop-columns : goal.invariant-loop-columns
invariant-loop-columns g l = record {
  stands : Stands l.free_b l.columns;
  within : gone l.free_b l.columns ≤ count l.free_b;
  done : Replaced l.how (target_at l.free_a l.free_b) (value_at l.a l.b l.free_a l.free_b l.shared)
      (count l.free_a) (gone l.free_b l.columns) l.initial.to l.to;
}

abbrev pub decreases-loop-columns : goal.decreases-loop-columns
decreases-loop-columns g l = count l.free_b - gone l.free_b l.columns
