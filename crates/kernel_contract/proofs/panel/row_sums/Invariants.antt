use Rattle.std.proofs.Common.{◌≡◌, ◌*◌, ◌%◌, ◌^◌, ◌<◌, ℕ, get_or}
use Rattle.kernel_contract.specs.Product.{entry}
use Rattle.kernel_contract.specs.Sum.{sum_to}
use Rattle.kernel_contract.proofs.panel.row_sums.Given as goal

abbrev pub invariant-loop-position : goal.invariant-loop-position
invariant-loop-position l = (j : ℕ) → j < 4 → get_or l.sums j 0 ≡ sum_to l.position (λ k. entry l.a k 0 * entry l.b k j) % 2 ^ 64
