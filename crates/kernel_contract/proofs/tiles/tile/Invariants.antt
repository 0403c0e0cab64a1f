use Rattle.std.proofs.Common.{◌≡◌, ◌≤◌, ℕ, length}
use Rattle.kernel_contract.specs.Product.{Multiplied, row_of}
use Rattle.kernel_contract.proofs.tiles.tile.Given as goal

abbrev pub invariant-loop-i : goal.invariant-loop-i
invariant-loop-i g l = record {
  len : length l.to ≡ g.row.M;
  done : Multiplied l.i g.row.N g.row.S l.a l.b l.initial.to l.to;
  rest : (i : ℕ) → l.i ≤ i → row_of l.to i ≡ row_of l.initial.to i;
}
