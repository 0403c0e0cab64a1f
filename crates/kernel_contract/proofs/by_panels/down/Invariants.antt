use Rattle.std.proofs.Common.{◌+◌, ◌-◌, ◌*◌, ◌%◌, ◌^◌, ◌≤◌, get_or}
use Rattle.kernel_contract.specs.Panels.{column_entry}
use Rattle.kernel_contract.specs.Parts.{Replaced}
use Rattle.kernel_contract.specs.Positions.{offset_a, offset_to}
use Rattle.kernel_contract.specs.Sum.{sum_to}
use Rattle.kernel_contract.specs.Walks.{Stands, count, gone, position_at}
use Rattle.kernel_contract.proofs.by_panels.down.Given as goal

abbrev pub invariant-loop-rows : goal.invariant-loop-rows
invariant-loop-rows g l = record {
  stands : Stands l.free_a l.rows;
  within : gone l.free_a l.rows ≤ count l.free_a;
  done : Replaced l.how (λ i j. (offset_to l.free_a (position_at l.free_a i) + get_or l.columns.to j 0) % 2 ^ 64)
      (λ i j. sum_to l.part.len (λ k. get_or l.a ((get_or l.part.a k 0 + offset_a l.free_a (position_at l.free_a i)) % 2 ^ 64) 0 * column_entry l.panels k j) % 2 ^ 64)
      (gone l.free_a l.rows) l.columns.len l.initial.to l.to;
}

abbrev pub decreases-loop-rows : goal.decreases-loop-rows
decreases-loop-rows g l = count l.free_a - gone l.free_a l.rows
