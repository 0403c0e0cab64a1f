use Rattle.std.proofs.Common.{◌≡◌, ◌%◌, ◌^◌, ◌<◌, ℕ, get_or}
use Rattle.kernel_contract.specs.Product.{row_by}
use Rattle.kernel_contract.proofs.tiles.tile_row.Given as goal

abbrev pub invariant-loop-k : goal.invariant-loop-k
invariant-loop-k g l = (j : ℕ) → j < g.row.N → get_or l.sums j 0 ≡ row_by l.row l.b l.k j % 2 ^ 64
