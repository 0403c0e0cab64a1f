use Rattle.std.proofs.Common.{◌≡◌, ◌<◌, ◌≤◌, ℕ, get_or, length}
use Rattle.kernel_contract.proofs.fronts.with_front.Given as goal

abbrev pub invariant-loop-j : goal.invariant-loop-j
invariant-loop-j g l = record {
  len : length l.whole ≡ 4;
  done : (j : ℕ) → j < l.j → get_or l.whole j 0 ≡ get_or l.part j 0;
  rest : (j : ℕ) → l.j ≤ j → get_or l.whole j 0 ≡ get_or l.row j 0;
}
