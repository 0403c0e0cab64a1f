use Rattle.std.proofs.Common.{◌+◌, ◌%◌, ◌^◌, get_or}
use Rattle.kernel_contract.specs.Parts.{Replaced}
use Rattle.kernel_contract.specs.Product.{entry}
use Rattle.kernel_contract.proofs.storing.store_rows.Given as goal

abbrev pub invariant-loop-i : goal.invariant-loop-i
invariant-loop-i l = Replaced l.how (λ i j. (get_or l.rows.to i 0 + get_or l.columns.to j 0) % 2 ^ 64) (entry l.values) l.i l.columns.len l.initial.to l.to
