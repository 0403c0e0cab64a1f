use Rattle.std.proofs.Common.{◌+◌, ◌%◌, ◌^◌, get_or}
use Rattle.kernel_contract.specs.Parts.{Replaced}
use Rattle.kernel_contract.proofs.storing.store_row.Given as goal

abbrev pub invariant-loop-j : goal.invariant-loop-j
invariant-loop-j l = Replaced l.how (λ i j. (l.row + get_or l.columns.to j 0) % 2 ^ 64) (λ i j. get_or l.values j 0) 1 l.j l.initial.to l.to
