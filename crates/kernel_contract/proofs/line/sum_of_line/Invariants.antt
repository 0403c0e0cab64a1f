use Rattle.std.proofs.Common.{◌≡◌, ◌%◌, ◌^◌, []}
use Rattle.kernel_contract.specs.Sum.{sum_to}
use Rattle.kernel_contract.proofs.LineLemmas.{terms_at}
use Rattle.kernel_contract.proofs.line.sum_of_line.Given as goal

abbrev pub invariant-loop-n : goal.invariant-loop-n
invariant-loop-n l = l.sum ≡ sum_to l.n (terms_at l.a l.b l.axis [] l.from_a l.from_b) % 2 ^ 64
