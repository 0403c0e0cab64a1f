use Rattle.std.proofs.Common.{rules, ◌≤◌}
use Rattle.slab.specs.Slab.{slab_len}
use Rattle.block_pool.proofs.SurplusLemmas.{full_taken}
use Rattle.block_pool.proofs.slots.take_all.Goals as goal

pub returns-clause-taken : goal.returns-clause-taken
returns-clause-taken c =
    let full : c.loop-table.table.capacity ≤ slab_len c.loop-table.table = search rules in
    full_taken c.loop-table.table full (search rules) (search rules)
