use Rattle.std.proofs.Common.{◌≡◌, ℕ, ◌+◌, ◌-◌, ◌%◌, ◌^◌, ◌∙◌, arith, ap, get_or, lit<, refl, rules, subst, sym}
use Rattle.std.proofs.lemmas.Nat.{mod_below}
use Rattle.kernel_permute.specs.How.{combined}
use Rattle.kernel_contract.specs.Parts.{AreTargets, term_at}
use Rattle.kernel_contract.specs.Positions.{offset_a, offset_to}
use Rattle.kernel_contract.specs.Sum.{sum_to}
use Rattle.kernel_contract.specs.Walks.{count, gone, position_at}
use Rattle.kernel_contract.proofs.FurtherLemmas.{Replaced-more, part_of_all, parts_sum}
use Rattle.kernel_contract.proofs.PartLemmas.{Replaced-same}
use Rattle.kernel_contract.proofs.PositionLemmas.{sum_over-sum_to}
use Rattle.kernel_contract.proofs.WalkLemmas.{left_some}
use Rattle.kernel_contract.proofs.by_panels.through.Goals as goal

pub over_part-requires : goal.over_part-requires
over_part-requires g c =
    let left = left_some c.args.shared.now c.start-positions.result.left c.start-positions.result.at c.start-positions.ensures.gone c.requires.positions in
    (search rules, (search rules, (search rules, (left, (c.start-positions.ensures.stands, (c.requires.some_columns, (c.requires.few_columns, (c.requires.filled, (c.requires.in_a, (c.requires.in_b, c.requires.targets))))))))))

pub loop-positions-init : goal.loop-positions-init
loop-positions-init g c = record {
  stands = c.over_part.ensures.stands;
  within = c.over_part.ensures.within;
  done =
      let none : gone c.args.shared.now c.start-positions.result ≡ 0 = c.start-positions.ensures.gone in
      Replaced-same c.args.how _ _ _ _ (count c.args.free_a.now) c.args.columns.now.len _ _
      (λ i j row column. refl)
      (λ i j row column. sym (part_of_all (term_at c.args.a.now c.args.b.now c.args.shared.now (offset_a c.args.free_a.now (position_at c.args.free_a.now i)) (get_or c.args.columns.now.b j 0))
      (gone c.args.shared.now c.start-positions.result) (gone c.args.shared.now c.over_part.new.positions) none))
      c.over_part.ensures.added;
}

pub over_part-requires-in-loop-positions : goal.over_part-requires-in-loop-positions
over_part-requires-in-loop-positions g c =
    let targets = subst (AreTargets (λ i j. (offset_to c.args.free_a.now (position_at c.args.free_a.now i) + get_or c.args.columns.now.to j 0) % 2 ^ 64)
    (count c.args.free_a.now) c.args.columns.now.len) (sym c.loop-positions.invariant.done.len) c.requires.targets in
    (search rules, (search rules, (search rules, (c.loop-positions-test.true, (c.loop-positions.invariant.stands, (c.requires.some_columns, (c.requires.few_columns, (c.requires.filled, (c.requires.in_a, (c.requires.in_b, targets))))))))))

pub loop-positions-preserved : goal.loop-positions-preserved
loop-positions-preserved g c =
    let before = gone c.args.shared.now c.loop-positions.positions in
    let after = gone c.args.shared.now c.over_part-in-loop-positions.new.positions in
    let T : ℕ → ℕ → ℕ = λ i j. (offset_to c.args.free_a.now (position_at c.args.free_a.now i) + get_or c.args.columns.now.to j 0) % 2 ^ 64 in
    let term : ℕ → ℕ → ℕ → ℕ = λ i j. term_at c.args.a.now c.args.b.now c.args.shared.now (offset_a c.args.free_a.now (position_at c.args.free_a.now i)) (get_or c.args.columns.now.b j 0) in
    let on : before + (after - before) ≡ after = omega (arith, c.over_part-in-loop-positions.ensures.further) in
    record {
      stands = c.over_part-in-loop-positions.ensures.stands;
      within = c.over_part-in-loop-positions.ensures.within;
      done = Replaced-more c.args.how _ T (λ i j. sum_to before (term i j) % 2 ^ 64) (λ i j. sum_to (after - before) (λ k. term i j (before + k)) % 2 ^ 64)
          (λ i j. sum_to after (term i j) % 2 ^ 64) (count c.args.free_a.now) c.args.columns.now.len _ _ _
          (λ i j x row column.
          c.further.ensures x (sum_to before (term i j) % 2 ^ 64) (sum_to (after - before) (λ k. term i j (before + k)) % 2 ^ 64)
          (mod_below _ _ (lit< tt)) (mod_below _ _ (lit< tt))
          ∙ ap (λ t. combined c.args.how x t) (parts_sum (term i j) before (after - before) ∙ ap (λ n. sum_to n (term i j) % 2 ^ 64) on))
          c.loop-positions.invariant.done c.over_part-in-loop-positions.ensures.added;
    }

pub returns : goal.returns
returns g c =
    let all : gone c.args.shared.now c.loop-positions.positions ≡ count c.args.shared.now = rw c.loop-positions-test.false refl in
    Replaced-same c.args.how _ _ _ _ (count c.args.free_a.now) c.args.columns.now.len _ _
    (λ i j row column. refl)
    (λ i j row column.
    ap (λ t. t % 2 ^ 64) (sum_over-sum_to c.args.shared.now _)
    ∙ ap (λ n. sum_to n (term_at c.args.a.now c.args.b.now c.args.shared.now (offset_a c.args.free_a.now (position_at c.args.free_a.now i)) (get_or c.args.columns.now.b j 0)) % 2 ^ 64) (sym all))
    c.loop-positions.invariant.done
