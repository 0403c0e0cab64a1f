use Rattle.std.proofs.Common.{◌+◌, ◌-◌, ◌%◌, ◌^◌, ◌≤◌, get_or}
use Rattle.kernel_contract.specs.Parts.{Replaced, term_at}
use Rattle.kernel_contract.specs.Positions.{offset_a, offset_to}
use Rattle.kernel_contract.specs.Sum.{sum_to}
use Rattle.kernel_contract.specs.Walks.{Stands, count, gone, position_at}
use Rattle.kernel_contract.proofs.by_panels.through.Given as goal

abbrev pub invariant-loop-positions : goal.invariant-loop-positions
invariant-loop-positions g l = record {
  stands : Stands l.shared l.positions;
  within : gone l.shared l.positions ≤ count l.shared;
  done : Replaced l.how (λ i j. (offset_to l.free_a (position_at l.free_a i) + get_or l.columns.to j 0) % 2 ^ 64)
      (λ i j. sum_to (gone l.shared l.positions) (term_at l.a l.b l.shared (offset_a l.free_a (position_at l.free_a i)) (get_or l.columns.b j 0)) % 2 ^ 64)
      (count l.free_a) l.columns.len l.fn.to l.to;
}

abbrev pub decreases-loop-positions : goal.decreases-loop-positions
decreases-loop-positions g l = count l.shared - gone l.shared l.positions
