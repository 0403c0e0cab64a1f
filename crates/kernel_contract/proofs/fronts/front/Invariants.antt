use Rattle.std.proofs.Common.{◌≡◌, ◌<◌, ℕ, length}
use Rattle.kernel_contract.specs.Product.{entry}
use Rattle.kernel_contract.proofs.fronts.front.Given as goal

abbrev pub invariant-loop-i : goal.invariant-loop-i
invariant-loop-i g l = record {
  len : length l.part ≡ g.row.M;
  done : (i j : ℕ) → i < l.i → j < g.row.N → entry l.part i j ≡ entry l.from i j;
}
