use Rattle.std.proofs.Common.{◌≡◌, ◌*◌, ◌%◌, ◌^◌, ◌<◌, ℕ, get_or}
use Rattle.kernel_contract.specs.Product.{entry}
use Rattle.kernel_contract.specs.Sum.{sum_to}
use Rattle.kernel_contract.proofs.panel.column_sums.Given as goal

abbrev pub invariant-loop-position : goal.invariant-loop-position
invariant-loop-position l = (i : ℕ) → i < 4 → get_or l.sums i 0 ≡ sum_to l.position (λ k. entry l.a k i * entry l.b k 0) % 2 ^ 64
