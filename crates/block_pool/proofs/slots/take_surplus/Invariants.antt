use Rattle.std.proofs.Common.{◌≤◌}
use Rattle.block_pool.specs.Surplus.{IsVacantBelow}
use Rattle.block_pool.proofs.slots.take_surplus.Given as goal

abbrev pub invariant-loop-key : goal.invariant-loop-key
invariant-loop-key l = record {
  fits : l.count ≤ l.table.capacity;
  below : IsVacantBelow l.table l.key;
}
