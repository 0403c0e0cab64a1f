use Rattle.std.proofs.Common.{◌≡◌, ◌++◌, drop}
use Rattle.block_store.specs.Memory.{ends_from, end_from}
use Rattle.block_store.proofs.memory_store.MemoryStore.open.Given as goal

abbrev pub invariant-loop-size : goal.invariant-loop-size
invariant-loop-size l = record {
  ends : l.ends.items ++ ends_from l.end (drop l.size-index l.sizes) ≡ ends_from 0 l.sizes;
  last : end_from l.end (drop l.size-index l.sizes) ≡ end_from 0 l.sizes;
}
