use Rattle.std.proofs.Common.{◌+◌, ◌-◌, ◌%◌, ◌^◌, ◌≤◌, get_or}
use Rattle.kernel_contract.specs.Parts.{Replaced, sum_from}
use Rattle.kernel_contract.specs.Positions.{offset_b, offset_to}
use Rattle.kernel_contract.specs.Walks.{Stands, count, gone, position_at}
use Rattle.kernel_contract.proofs.tiled.across.Given as goal

abbrev pub invariant-loop-columns : goal.invariant-loop-columns
invariant-loop-columns g l = record {
  stands : Stands l.free_b l.columns;
  within : gone l.free_b l.columns ≤ count l.free_b;
  done : Replaced l.how (λ i j. (get_or l.rows.to i 0 + offset_to l.free_b (position_at l.free_b j)) % 2 ^ 64)
      (λ i j. sum_from l.a l.b l.shared (get_or l.rows.a i 0) (offset_b l.free_b (position_at l.free_b j)))
      l.rows.len (gone l.free_b l.columns) l.initial.to l.to;
}

abbrev pub decreases-loop-columns : goal.decreases-loop-columns
decreases-loop-columns g l = count l.free_b - gone l.free_b l.columns
