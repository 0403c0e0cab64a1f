use Rattle.std.proofs.Common.{◌+◌, ◌-◌, ◌%◌, ◌^◌}
use Rattle.kernel_contract.specs.Parts.{Replaced, sum_from}
use Rattle.kernel_contract.specs.Positions.{offset_b, offset_to}
use Rattle.kernel_contract.specs.Walks.{Stands, count, gone, position_at}
use Rattle.kernel_contract.proofs.laws.plain_row.Given as goal

abbrev pub invariant-loop-column : goal.invariant-loop-column
invariant-loop-column g l = record {
  stands : Stands l.free_b l.column;
  done : Replaced l.how (λ i j. (l.row.to + offset_to l.free_b (position_at l.free_b j)) % 2 ^ 64)
      (λ i j. sum_from l.a l.b l.shared l.row.a (offset_b l.free_b (position_at l.free_b j)))
      1 (gone l.free_b l.column) l.initial.to l.to;
}

abbrev pub decreases-loop-column : goal.decreases-loop-column
decreases-loop-column g l = count l.free_b - gone l.free_b l.column
