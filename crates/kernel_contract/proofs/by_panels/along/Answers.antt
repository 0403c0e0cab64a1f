use Rattle.std.proofs.Common.{◌≡◌, ℕ, ◌+◌, ◌*◌, ◌%◌, ◌^◌, arith, get_or, length, min, subst}
use Rattle.kernel_contract.specs.Panels.{column_entry}
use Rattle.kernel_contract.specs.Parts.{Replaced}
use Rattle.kernel_contract.specs.Product.{entry}
use Rattle.kernel_contract.specs.Sum.{sum_to}
use Rattle.kernel_contract.proofs.PanelLemmas.{Replaced-four, panel_sum}
use Rattle.kernel_contract.proofs.by_panels.along.Goals.{then-q-columns, else-q-columns}
use Rattle.kernel_contract.proofs.by_panels.along.Goals as goal

pub loop-q-preserved : goal.loop-q-preserved
loop-q-preserved c =
    let q = c.loop-q.q in
    let T : ℕ → ℕ → ℕ = λ i j. (get_or c.args.rows.now.to i 0 + get_or c.args.columns.now.to j 0) % 2 ^ 64 in
    let V : ℕ → ℕ → ℕ = λ i j. sum_to c.args.positions (λ k. entry c.args.packed.now k i * column_entry c.args.panels.now k j) % 2 ^ 64 in
    elim c.if-q-columns.branch [
      | then-q-columns w ↦
          rw w.to-is
          (Replaced-four c.args.how T V
          (λ i j. (get_or c.args.rows.now.to i 0 + get_or w.four.result.to j 0) % 2 ^ 64) (entry w.front_sums-sums.result)
          c.args.rows.now.len q w.four.result.len c.args.columns.now.len (length c.args.to.now) c.args.to.now c.loop-q.to w.store.new.to
          w.if-q-columns.true w.four.ensures.len c.requires.targets
          (λ i j row column. let at = w.four.ensures.to j (omega (arith, w.four.ensures.len)) in rw at)
          (λ i j row column. panel_sum c.args.positions c.args.packed.now c.args.panels.now q i j _ (omega (arith, w.four.ensures.len)) (omega arith)
          (w.front_sums-sums.ensures i j (omega (arith, c.requires.few_rows)) (omega (arith, w.four.ensures.len)) (omega arith) (omega (arith, w.four.ensures.len))))
          c.loop-q.invariant w.store.ensures)
      | else-q-columns w ↦
          let same : min (4 * q) c.args.columns.now.len ≡ min (4 * (q + 1)) c.args.columns.now.len = omega (arith, w.if-q-columns.false) in
          rw w.to-is (subst (λ n. Replaced c.args.how T V c.args.rows.now.len n c.args.to.now c.loop-q.to) same c.loop-q.invariant)
    ]
