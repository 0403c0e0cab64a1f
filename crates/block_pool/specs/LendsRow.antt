-- What rows end as, once the words of one are given back.
use Rattle.std.specs.Prelude.{ℕ, List}
use Rattle.std.specs.Borrow.{Lends, MutBor, Fml, Array, u64}
use Rattle.block_pool.specs.Cut.{written_back}
use Rattle.block_pool.specs.contracts.rows.Rows.{the_row}

-- the row at a place is lent
abbrev pub lends_row : MutBor (List (List ℕ)) → ℕ → MutBor (List ℕ) → Fml
lends_row rs slot r = Lends the_row (Array u64 0) rs r (written_back rs.now slot)
