-- Sums of a term over the first numbers.
use Rattle.std.specs.Prelude.{ℕ, ◌+◌}
use Rattle.std.proofs.Common.{zero, suc}

-- the sum of the term at each number below `n`
abbrev pub sum_to : ℕ → (ℕ → ℕ) → ℕ
sum_to zero term = 0
sum_to (suc n) term = sum_to n term + term n
