use Rattle.std.proofs.Common.{◌≡◌, ℕ, ◌+◌, ◌*◌, ◌%◌, ◌^◌, ◌<◌, arith, get_or, length, refl, subst, sym}
use Rattle.kernel_contract.specs.Panels.{column_entry}
use Rattle.kernel_contract.specs.Parts.{Replaced, AreTargets}
use Rattle.kernel_contract.specs.Positions.{offset_a, offset_to}
use Rattle.kernel_contract.specs.Product.{entry}
use Rattle.kernel_contract.specs.Sum.{sum_to}
use Rattle.kernel_contract.specs.Walks.{count, gone, position_at}
use Rattle.kernel_contract.proofs.PanelLemmas.{panel_terms}
use Rattle.kernel_contract.proofs.PartLemmas.{AreTargets-rows, AreTargets-same, Replaced-rows, Replaced-same}
use Rattle.kernel_contract.proofs.SourceLemmas.{add-known, all-filled, known-add}
use Rattle.kernel_contract.proofs.by_panels.down.Goals as goal

pub pack-requires-clause-within : goal.pack-requires-clause-within
pack-requires-clause-within g c k i position lane =
    let first = gone c.args.free_a.now c.loop-rows.rows in
    let run = c.run-run.ensures.run in
    all-filled 4 (λ x. (get_or c.args.part.now.a k 0 + x) % 2 ^ 64 < length c.args.a.now) c.run-run.result.a c.run-run.result.len
    run.some run.filled.a
    (λ r inside. rw (add-known (get_or c.args.part.now.a k 0) (get_or c.run-run.result.a r 0) (offset_a c.args.free_a.now (position_at c.args.free_a.now (first + r))) (run.a r inside))
    (c.requires.in_a (first + r) k (omega (arith, c.run-run.ensures.gone, c.run-run.ensures.within)) position))
    i lane

pub along-requires-clause-targets : goal.along-requires-clause-targets
along-requires-clause-targets g c =
    let T : ℕ → ℕ → ℕ = λ i j. (offset_to c.args.free_a.now (position_at c.args.free_a.now i) + get_or c.args.columns.now.to j 0) % 2 ^ 64 in
    let first = gone c.args.free_a.now c.loop-rows.rows in
    AreTargets-same (λ i j. T (first + i) j) _ c.run-run.result.len c.args.columns.now.len _
    (λ i j row column. known-add (get_or c.run-run.result.to i 0) (offset_to c.args.free_a.now (position_at c.args.free_a.now (first + i)))
    (get_or c.args.columns.now.to j 0) (c.run-run.ensures.run.to i row))
    (AreTargets-rows T first c.run-run.result.len (count c.args.free_a.now) c.args.columns.now.len _
    (omega (arith, c.run-run.ensures.gone, c.run-run.ensures.within))
    (subst (AreTargets T (count c.args.free_a.now) c.args.columns.now.len) (sym c.loop-rows.invariant.done.len) c.requires.targets))

pub loop-rows-preserved : goal.loop-rows-preserved
loop-rows-preserved g c =
    let T : ℕ → ℕ → ℕ = λ i j. (offset_to c.args.free_a.now (position_at c.args.free_a.now i) + get_or c.args.columns.now.to j 0) % 2 ^ 64 in
    let V : ℕ → ℕ → ℕ = λ i j. sum_to c.args.part.now.len (λ k. get_or c.args.a.now
    ((get_or c.args.part.now.a k 0 + offset_a c.args.free_a.now (position_at c.args.free_a.now i)) % 2 ^ 64) 0 * column_entry c.args.panels.now k j) % 2 ^ 64 in
    let first = gone c.args.free_a.now c.loop-rows.rows in
    record {
      stands = c.run-run.ensures.stands;
      within = c.run-run.ensures.within;
      done = rw c.run-run.ensures.gone
          (Replaced-rows c.args.how T V first c.run-run.result.len c.args.columns.now.len (count c.args.free_a.now) (length c.args.to.now)
          c.args.to.now c.loop-rows.to c.along.new.to (omega (arith, c.run-run.ensures.gone, c.run-run.ensures.within))
          c.requires.targets c.loop-rows.invariant.done
          (Replaced-same c.args.how (λ i j. (get_or c.run-run.result.to i 0 + get_or c.args.columns.now.to j 0) % 2 ^ 64)
          (λ i j. sum_to c.args.part.now.len (λ k. entry c.pack.new.panel k i * column_entry c.args.panels.now k j) % 2 ^ 64)
          (λ i j. T (first + i) j) (λ i j. V (first + i) j) c.run-run.result.len c.args.columns.now.len c.loop-rows.to c.along.new.to
          (λ i j row column. sym (known-add (get_or c.run-run.result.to i 0) (offset_to c.args.free_a.now (position_at c.args.free_a.now (first + i)))
          (get_or c.args.columns.now.to j 0) (c.run-run.ensures.run.to i row)))
          (λ i j row column. panel_terms c.args.a.now c.run-run.result.a c.args.part.now.a c.pack.new.panel c.args.panels.now c.args.part.now.len i j
          (offset_a c.args.free_a.now (position_at c.args.free_a.now (first + i))) c.pack.ensures (omega (arith, c.run-run.ensures.run.len))
          (c.run-run.ensures.run.a i row))
          c.along.ensures));
    }

pub returns : goal.returns
returns g c =
    let all : gone c.args.free_a.now c.loop-rows.rows ≡ count c.args.free_a.now = rw c.loop-rows-test.false refl in
    subst (λ n. Replaced c.args.how (λ i j. (offset_to c.args.free_a.now (position_at c.args.free_a.now i) + get_or c.args.columns.now.to j 0) % 2 ^ 64)
    (λ i j. sum_to c.args.part.now.len (λ k. get_or c.args.a.now
    ((get_or c.args.part.now.a k 0 + offset_a c.args.free_a.now (position_at c.args.free_a.now i)) % 2 ^ 64) 0 * column_entry c.args.panels.now k j) % 2 ^ 64)
    n c.args.columns.now.len c.args.to.now c.loop-rows.to) all c.loop-rows.invariant.done
