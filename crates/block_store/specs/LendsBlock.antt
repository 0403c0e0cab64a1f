-- What a store in memory ends as, once the words of a block are given back.
use Rattle.std.specs.Prelude.{ℕ, List}
use Rattle.std.specs.Borrow.{Lends, MutBor, Fml, Array, u64}
use Rattle.block_store.specs.Lent.{written_back}
use Rattle.block_store.specs.contracts.memory_store.MemoryStore.{the_row}

-- the words of a block are lent
abbrev pub lends_block : MutBor (List (List ℕ)) → ℕ → MutBor (List ℕ) → Fml
lends_block store block words = Lends the_row (Array u64 0) store words (written_back store.now block)
