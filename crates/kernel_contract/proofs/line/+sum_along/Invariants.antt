use Rattle.std.proofs.Common.{◌≡◌, ◌%◌, ◌^◌, length}
use Rattle.kernel_contract.specs.Sum.{sum_to}
use Rattle.kernel_contract.proofs.LineLemmas.{terms_at}
use Rattle.kernel_contract.proofs.line.+sum_along.Given as goal

abbrev pub decreases-sum_along : goal.decreases-sum_along
decreases-sum_along l = length l.shared.now

abbrev pub invariant-loop-n : goal.invariant-loop-n
invariant-loop-n l = l.sum ≡ sum_to l.n (terms_at l.a l.b l.axis l.rest l.from_a l.from_b) % 2 ^ 64
