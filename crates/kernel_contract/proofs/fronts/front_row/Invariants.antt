use Rattle.std.proofs.Common.{◌≡◌, ◌<◌, ℕ, get_or, length}
use Rattle.kernel_contract.proofs.fronts.front_row.Given as goal

abbrev pub invariant-loop-j : goal.invariant-loop-j
invariant-loop-j g l = record {
  len : length l.part ≡ g.row.N;
  done : (j : ℕ) → j < l.j → get_or l.part j 0 ≡ get_or l.from j 0;
}
