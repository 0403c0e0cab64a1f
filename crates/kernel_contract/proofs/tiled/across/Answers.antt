use Rattle.std.proofs.Common.{◌<◌, ◌+◌, ◌%◌, ◌^◌, ◌∙◌, arith, get_or, length, subst, sym, ℕ, rules}
use Rattle.kernel_contract.specs.Parts.{AreTargets, Reaches, sum_from}
use Rattle.kernel_contract.specs.Positions.{offset_a, offset_b, offset_to}
use Rattle.kernel_contract.specs.Product.{entry}
use Rattle.kernel_contract.specs.Walks.{count, gone, position_at}
use Rattle.kernel_contract.proofs.PartLemmas.{AreTargets-columns, AreTargets-same, Replaced-columns, Replaced-same}
use Rattle.kernel_contract.proofs.SourceLemmas.{add-known, known-add, sum_from-known}
use Rattle.kernel_contract.proofs.tiled.across.Goals as goal

pub products-sums-requires : goal.products-sums-requires
products-sums-requires g c =
    let first = gone c.args.free_b.now c.loop-columns.columns in
    let in_a : (i : ℕ) → i < c.args.rows.now.len → Reaches offset_a c.args.shared.now (get_or c.args.rows.now.a i 0) (length c.args.a.now) =
    λ i row. c.requires.in_a i first row (omega (arith, c.run-run.ensures.gone, c.run-run.ensures.within, c.run-run.ensures.run.some)) in
    let in_b : (j : ℕ) → j < c.run-run.result.len → Reaches offset_b c.args.shared.now (get_or c.run-run.result.b j 0) (length c.args.b.now) =
    λ j column s p. rw (known-add (get_or c.run-run.result.b j 0) (offset_b c.args.free_b.now (position_at c.args.free_b.now (first + j)))
    (offset_b c.args.shared.now s) (c.run-run.ensures.run.b j column))
    (c.requires.in_b (first + j) (omega (arith, c.run-run.ensures.gone, c.run-run.ensures.within)) s p) in
    (search rules, (c.requires.some_rows, (c.requires.few_rows, (c.run-run.ensures.run.some, (c.run-run.ensures.run.len, (c.requires.filled_rows, (c.run-run.ensures.run.filled, (in_a, in_b))))))))

pub store-requires-clause-targets : goal.store-requires-clause-targets
store-requires-clause-targets g c =
    let T : ℕ → ℕ → ℕ = λ i j. (get_or c.args.rows.now.to i 0 + offset_to c.args.free_b.now (position_at c.args.free_b.now j)) % 2 ^ 64 in
    let first = gone c.args.free_b.now c.loop-columns.columns in
    AreTargets-same (λ i j. T i (first + j)) _ c.args.rows.now.len c.run-run.result.len _
    (λ i j row column. add-known (get_or c.args.rows.now.to i 0) (get_or c.run-run.result.to j 0)
    (offset_to c.args.free_b.now (position_at c.args.free_b.now (first + j))) (c.run-run.ensures.run.to j column))
    (AreTargets-columns T c.args.rows.now.len first c.run-run.result.len (count c.args.free_b.now) _
    (omega (arith, c.run-run.ensures.gone, c.run-run.ensures.within))
    (subst (AreTargets T c.args.rows.now.len (count c.args.free_b.now)) (sym c.loop-columns.invariant.done.len) c.requires.targets))

pub loop-columns-preserved : goal.loop-columns-preserved
loop-columns-preserved g c =
    let T : ℕ → ℕ → ℕ = λ i j. (get_or c.args.rows.now.to i 0 + offset_to c.args.free_b.now (position_at c.args.free_b.now j)) % 2 ^ 64 in
    let V : ℕ → ℕ → ℕ = λ i j. sum_from c.args.a.now c.args.b.now c.args.shared.now (get_or c.args.rows.now.a i 0)
    (offset_b c.args.free_b.now (position_at c.args.free_b.now j)) in
    let first = gone c.args.free_b.now c.loop-columns.columns in
    record {
      stands = c.run-run.ensures.stands;
      within = c.run-run.ensures.within;
      done = rw c.run-run.ensures.gone
          (Replaced-columns c.args.how T V c.args.rows.now.len first c.run-run.result.len (count c.args.free_b.now) (length c.args.to.now)
          c.args.to.now c.loop-columns.to c.store.new.to (omega (arith, c.run-run.ensures.gone, c.run-run.ensures.within))
          c.requires.targets c.loop-columns.invariant.done
          (Replaced-same c.args.how (λ i j. (get_or c.args.rows.now.to i 0 + get_or c.run-run.result.to j 0) % 2 ^ 64) (entry c.products-sums.result)
          (λ i j. T i (first + j)) (λ i j. V i (first + j)) c.args.rows.now.len c.run-run.result.len c.loop-columns.to c.store.new.to
          (λ i j row column. sym (add-known (get_or c.args.rows.now.to i 0) (get_or c.run-run.result.to j 0)
          (offset_to c.args.free_b.now (position_at c.args.free_b.now (first + j))) (c.run-run.ensures.run.to j column)))
          (λ i j row column. sym (c.products-sums.ensures i j row column ∙ sum_from-known c.args.a.now c.args.b.now c.args.shared.now (get_or c.args.rows.now.a i 0)
          (get_or c.run-run.result.b j 0) (offset_b c.args.free_b.now (position_at c.args.free_b.now (first + j))) (c.run-run.ensures.run.b j column)))
          c.store.ensures));
    }
