-- What a pool ends as, once the words of a slot are given back.
use Rattle.std.specs.Prelude.{ℕ, List}
use Rattle.std.specs.Borrow.{Lends, MutBor, Fml, Array, u64}
use Rattle.block_pool.specs.Memory.{Memory}
use Rattle.block_pool.specs.Cut.{written_back}
use Rattle.block_pool.specs.contracts.pool.Pool.{the_row}

-- the pool after the words of a slot were lent and are these now: as many as the slot has are its new words
abbrev pub refilled : Memory → ℕ → List ℕ → Memory
refilled p slot ws = record p { words = written_back p.words slot ws }

-- the words of a slot are lent
abbrev pub lends_slot : MutBor Memory → ℕ → MutBor (List ℕ) → Fml
lends_slot p slot r = Lends the_row (Array u64 0) p r (refilled p.now slot)
