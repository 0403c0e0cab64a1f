use Rattle.std.proofs.Common.{◌≡◌, ◌*◌, ◌%◌, ◌^◌, ◌<◌, ℕ}
use Rattle.kernel_contract.specs.Product.{entry}
use Rattle.kernel_contract.specs.Sum.{sum_to}
use Rattle.kernel_contract.proofs.panel.panel_sums.Given as goal

abbrev pub invariant-loop-position : goal.invariant-loop-position
invariant-loop-position l = (i j : ℕ) → i < 4 → j < 4 → entry l.sums i j ≡ sum_to l.position (λ k. entry l.a k i * entry l.b k j) % 2 ^ 64
