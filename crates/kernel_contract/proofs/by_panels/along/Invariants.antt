use Rattle.std.proofs.Common.{◌+◌, ◌*◌, ◌%◌, ◌^◌, get_or, min}
use Rattle.kernel_contract.specs.Panels.{column_entry}
use Rattle.kernel_contract.specs.Parts.{Replaced}
use Rattle.kernel_contract.specs.Product.{entry}
use Rattle.kernel_contract.specs.Sum.{sum_to}
use Rattle.kernel_contract.proofs.by_panels.along.Given as goal

abbrev pub invariant-loop-q : goal.invariant-loop-q
invariant-loop-q l = Replaced l.how (λ i j. (get_or l.rows.to i 0 + get_or l.columns.to j 0) % 2 ^ 64)
    (λ i j. sum_to l.positions (λ k. entry l.packed k i * column_entry l.panels k j) % 2 ^ 64)
    l.rows.len (min (4 * l.q) l.columns.len) l.initial.to l.to
