use Rattle.std.proofs.Common.{◌≡◌, ◌+◌, ◌%◌, ◌^◌, ◌<◌, ℕ, get_or, length}
use Rattle.kernel_contract.proofs.tiles.added.Given as goal

abbrev pub invariant-loop-j : goal.invariant-loop-j
invariant-loop-j g l = record {
  len : length l.more ≡ g.row.N;
  done : (j : ℕ) → j < l.j → get_or l.more j 0 ≡ (get_or l.to j 0 + get_or l.sums j 0) % 2 ^ 64;
}
