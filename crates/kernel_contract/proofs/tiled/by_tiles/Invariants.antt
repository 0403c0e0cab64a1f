use Rattle.std.proofs.Common.{◌-◌, ◌≤◌}
use Rattle.kernel_contract.specs.Parts.{Replaced}
use Rattle.kernel_contract.specs.Walks.{Stands, count, gone}
use Rattle.kernel_contract.proofs.ContractionLemmas.{target_at, value_at}
use Rattle.kernel_contract.proofs.tiled.by_tiles.Given as goal

abbrev pub invariant-loop-rows : goal.invariant-loop-rows
invariant-loop-rows g l = record {
  stands : Stands l.free_a l.rows;
  within : gone l.free_a l.rows ≤ count l.free_a;
  done : Replaced l.how (target_at l.free_a l.free_b) (value_at l.a l.b l.free_a l.free_b l.shared)
      (gone l.free_a l.rows) (count l.free_b) l.initial.to l.to;
}

abbrev pub decreases-loop-rows : goal.decreases-loop-rows
decreases-loop-rows g l = count l.free_a - gone l.free_a l.rows
