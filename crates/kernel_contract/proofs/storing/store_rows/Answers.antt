use Rattle.std.proofs.Common.{◌≡◌, ◌+◌, ◌%◌, ◌^◌, arith, get_or, length, ap, ℕ}
use Rattle.kernel_contract.specs.Product.{entry}
use Rattle.kernel_contract.proofs.PartLemmas.{Replaced-rows, Replaced-same}
use Rattle.kernel_contract.proofs.storing.store_rows.Goals as goal

pub loop-i-preserved : goal.loop-i-preserved
loop-i-preserved c =
    let T : ℕ → ℕ → ℕ = λ i j. (get_or c.args.rows.now.to i 0 + get_or c.args.columns.now.to j 0) % 2 ^ 64 in
    let i = c.loop-i.i in
    Replaced-rows c.args.how T (entry c.args.values.now) i 1 c.args.columns.now.len c.args.rows.now.len (length c.args.to.now)
    c.args.to.now c.loop-i.to c.store_row.new.to (omega arith) c.requires.targets c.loop-i.invariant
    (Replaced-same c.args.how (λ k j. T i j) (λ k j. entry c.args.values.now i j) (λ k j. T (i + k) j) (λ k j. entry c.args.values.now (i + k) j)
    1 c.args.columns.now.len c.loop-i.to c.store_row.new.to
    (λ k j low _. let none : i + k ≡ i = omega arith in ap (λ x. T x j) none)
    (λ k j low _. let none : i + k ≡ i = omega arith in ap (λ x. entry c.args.values.now x j) none)
    c.store_row.ensures)
