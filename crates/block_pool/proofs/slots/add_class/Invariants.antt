use Rattle.std.proofs.Common.{◌≡◌, ◌++◌, replicate}
use Rattle.block_pool.proofs.slots.add_class.Given as goal

abbrev pub invariant-loop : goal.invariant-loop
invariant-loop l = l.classes.items ≡ l.fn.classes.items ++ replicate l.counter l.class
