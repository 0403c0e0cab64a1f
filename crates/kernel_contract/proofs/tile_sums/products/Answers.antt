use Rattle.std.proofs.Common.{◌≡◌, ◌+◌, ◌<◌, ◌%◌, ◌^◌, ◌∙◌, arith, ap, add_comm, get_or, length, sym, refl}
use Rattle.kernel_contract.specs.Parts.{term_at}
use Rattle.kernel_contract.specs.Positions.{offset_a, offset_b}
use Rattle.kernel_contract.specs.Product.{row_of}
use Rattle.kernel_contract.specs.Sum.{sum_to}
use Rattle.kernel_contract.specs.Walks.{count, gone}
use Rattle.kernel_contract.proofs.PositionLemmas.{sum_over-sum_to}
use Rattle.kernel_contract.proofs.SourceLemmas.{Reaches-position_at, all-filled, row_by-terms}
use Rattle.kernel_contract.proofs.Sums.{sum_more}
use Rattle.kernel_contract.proofs.tile_sums.products.Goals as goal

pub packed-part_a-requires : goal.packed-part_a-requires
packed-part_a-requires g c i j row low =
    let run = c.run-run.ensures.run in
    all-filled 4 (λ x. (x + get_or c.run-run.result.a j 0) % 2 ^ 64 < length c.args.a.now) c.args.rows.now.a c.args.rows.now.len
    c.requires.some_rows c.requires.filled_rows.a
    (λ r inside. all-filled 4 (λ y. (get_or c.args.rows.now.a r 0 + y) % 2 ^ 64 < length c.args.a.now) c.run-run.result.a c.run-run.result.len
    run.some run.filled.a
    (λ k position. Reaches-position_at offset_a c.args.shared.now _ _ (gone c.args.shared.now c.loop-walk.walk + k) _ (c.requires.in_a r inside)
    (omega (arith, c.run-run.ensures.gone, c.run-run.ensures.within)) (run.a k position))
    j low)
    i row

pub packed-part_b-requires : goal.packed-part_b-requires
packed-part_b-requires g c i j low column =
    let run = c.run-run.ensures.run in
    rw (add_comm (get_or c.run-run.result.b i 0) (get_or c.args.columns.now.b j 0))
    (all-filled 4 (λ x. (x + get_or c.run-run.result.b i 0) % 2 ^ 64 < length c.args.b.now) c.args.columns.now.b c.args.columns.now.len
    c.requires.some_columns c.requires.filled_columns.b
    (λ r inside. all-filled 4 (λ y. (get_or c.args.columns.now.b r 0 + y) % 2 ^ 64 < length c.args.b.now) c.run-run.result.b c.run-run.result.len
    run.some run.filled.b
    (λ k position. Reaches-position_at offset_b c.args.shared.now _ _ (gone c.args.shared.now c.loop-walk.walk + k) _ (c.requires.in_b r inside)
    (omega (arith, c.run-run.ensures.gone, c.run-run.ensures.within)) (run.b k position))
    i low)
    j column)

pub loop-walk-preserved : goal.loop-walk-preserved
loop-walk-preserved g c = record {
  stands = c.run-run.ensures.stands;
  within = c.run-run.ensures.within;
  done = λ i j row column.
      let more = row_by-terms c.args.a.now c.args.b.now c.args.shared.now (get_or c.args.rows.now.a i 0) (get_or c.args.columns.now.b j 0)
      (gone c.args.shared.now c.loop-walk.walk) c.run-run.result.len (row_of c.packed-part_a.result i) c.packed-part_b.result j
      (λ k. get_or c.run-run.result.a k 0) (λ k. get_or c.run-run.result.b k 0)
      (λ k h. c.packed-part_a.ensures i k (omega arith) (omega (arith, c.run-run.ensures.run.len)))
      (λ k h. c.packed-part_b.ensures k j (omega (arith, c.run-run.ensures.run.len)) (omega arith))
      c.run-run.ensures.run.a c.run-run.ensures.run.b in
      c.tile_any.ensures.front i j row column
      ∙ rw c.run-run.ensures.gone
      (sum_more (term_at c.args.a.now c.args.b.now c.args.shared.now (get_or c.args.rows.now.a i 0) (get_or c.args.columns.now.b j 0))
      (gone c.args.shared.now c.loop-walk.walk) c.run-run.result.len _ _ (c.loop-walk.invariant.done i j row column) more);
}

pub returns : goal.returns
returns g c i j row column =
    let all : gone c.args.shared.now c.loop-walk.walk ≡ count c.args.shared.now = rw c.loop-walk-test.false refl in
    c.loop-walk.invariant.done i j row column
    ∙ ap (λ n. sum_to n (term_at c.args.a.now c.args.b.now c.args.shared.now (get_or c.args.rows.now.a i 0) (get_or c.args.columns.now.b j 0)) % 2 ^ 64) all
    ∙ ap (λ t. t % 2 ^ 64) (sym (sum_over-sum_to c.args.shared.now _))
