use Rattle.std.proofs.Common.{◌≡◌, ℕ, ◌+◌, ◌-◌, ◌*◌, ◌%◌, ◌^◌, ◌<◌, add_comm, arith, ap, get_or, length, refl, rules, sym}
use Rattle.kernel_contract.specs.Panels.{column_entry}
use Rattle.kernel_contract.specs.Positions.{offset_a, offset_b, offset_to}
use Rattle.kernel_contract.specs.Sum.{sum_to}
use Rattle.kernel_contract.specs.Walks.{count, gone, position_at}
use Rattle.kernel_contract.proofs.FurtherLemmas.{part_terms}
use Rattle.kernel_contract.proofs.PartLemmas.{Replaced-same}
use Rattle.kernel_contract.proofs.SourceLemmas.{Reaches-position_at}
use Rattle.kernel_contract.proofs.by_panels.over_part.Goals as goal

pub pack_columns-requires-clause-within : goal.pack_columns-requires-clause-within
pack_columns-requires-clause-within g c k j position column =
    let first = gone c.args.shared.now c.args.positions.now in
    rw (add_comm (get_or c.run-part.result.b k 0) (get_or c.args.columns.now.b j 0))
    (Reaches-position_at offset_b c.args.shared.now (get_or c.args.columns.now.b j 0) _ (first + k) (get_or c.run-part.result.b k 0) (c.requires.in_b j column)
    (omega (arith, c.run-part.ensures.gone, c.run-part.ensures.within)) (c.run-part.ensures.run.b k position))

pub down-requires : goal.down-requires
down-requires g c =
    let first = gone c.args.shared.now c.args.positions.now in
    let in_a : (i k : ℕ) → i < count c.args.free_a.now → k < c.run-part.result.len
    → (get_or c.run-part.result.a k 0 + offset_a c.args.free_a.now (position_at c.args.free_a.now i)) % 2 ^ 64 < length c.args.a.now =
    λ i k row position.
    rw (add_comm (get_or c.run-part.result.a k 0) (offset_a c.args.free_a.now (position_at c.args.free_a.now i)))
    (Reaches-position_at offset_a c.args.shared.now (offset_a c.args.free_a.now (position_at c.args.free_a.now i)) _ (first + k) (get_or c.run-part.result.a k 0) (c.requires.in_a i row)
    (omega (arith, c.run-part.ensures.gone, c.run-part.ensures.within)) (c.run-part.ensures.run.a k position)) in
    (search rules, (c.run-part.ensures.run.len, (c.requires.few_columns, (in_a, c.requires.targets))))

pub returns-clause-added : goal.returns-clause-added
returns-clause-added g c =
    let first = gone c.args.shared.now c.args.positions.now in
    let len : gone c.args.shared.now c.run-part.new.self - first ≡ c.run-part.result.len = omega (arith, c.run-part.ensures.gone) in
    Replaced-same c.args.how (λ i j. (offset_to c.args.free_a.now (position_at c.args.free_a.now i) + get_or c.args.columns.now.to j 0) % 2 ^ 64)
    (λ i j. sum_to c.run-part.result.len (λ k. get_or c.args.a.now
    ((get_or c.run-part.result.a k 0 + offset_a c.args.free_a.now (position_at c.args.free_a.now i)) % 2 ^ 64) 0 * column_entry c.pack_columns.new.panels k j) % 2 ^ 64)
    _ _ (count c.args.free_a.now) c.args.columns.now.len _ _
    (λ i j row column. refl)
    (λ i j row column. rw len
    (ap (λ t. t % 2 ^ 64) (sym (part_terms c.args.a.now c.args.b.now c.args.shared.now (offset_a c.args.free_a.now (position_at c.args.free_a.now i)) c.args.columns.now.b
    first c.args.columns.now.len j c.run-part.result c.pack_columns.new.panels c.run-part.ensures.run c.pack_columns.ensures column))))
    c.down.ensures
