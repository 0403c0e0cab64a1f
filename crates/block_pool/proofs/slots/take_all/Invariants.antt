use Rattle.std.proofs.Common.{◌≡◌, ◌-◌}
use Rattle.slab.specs.Slab.{slab_len}
use Rattle.block_pool.proofs.slots.take_all.Given as goal

abbrev pub invariant-loop-table : goal.invariant-loop-table
invariant-loop-table l = l.table.capacity ≡ l.fn.table.capacity

abbrev pub decreases-loop-table : goal.decreases-loop-table
decreases-loop-table l = l.table.capacity - slab_len l.table
