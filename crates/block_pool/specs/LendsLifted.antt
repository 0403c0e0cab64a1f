-- What a lifted slot ends as, once its words are given back.
use Rattle.std.specs.Prelude.{ℕ, List, length}
use Rattle.std.specs.List.{refill}
use Rattle.std.specs.Borrow.{Lends, MutBor, Fml, Array, u64}
use Rattle.block_pool.specs.Memory.{Apart}
use Rattle.block_pool.specs.contracts.lifted.Lifted.{the_row}

-- the words of a lifted slot are lent
abbrev pub lends_lifted : MutBor Apart → MutBor (List ℕ) → Fml
lends_lifted l r = Lends the_row (Array u64 0) l r (λ ws. record l.now { words = refill (length l.now.words) l.now.words ws })
