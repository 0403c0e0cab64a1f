use Rattle.std.proofs.Common.{◌≡◌, ◌∙◌, ◌+◌, ◌-◌, ◌*◌, ◌^◌, ◌<◌, length, take, drop, get_or, ap, sym, refl, arith, rules}
use Rattle.std.proofs.lemmas.List.{length-take}
use Rattle.std.proofs.lemmas.Slice.{first_rest}
use borrow.Rule.Slice.PartMut.{put_mid}
use Rattle.kernel_permute.specs.declared.part.Part.{Part}
use Rattle.kernel_permute.specs.Parts.{starts, sizes, dims_of}
use Rattle.kernel_permute.specs.Positions.{product}
use Rattle.kernel_permute.proofs.InsertingLemmas.{insert_first, insert_turn, insert_done}
use Rattle.kernel_permute.proofs.PartsLemmas.{first_split, length-inner, positive_from_part, row_of, rows_some}
use Rattle.kernel_permute.proofs.inserting.+insertion.Goals as goal

pub insert_block-overflow_add-inner : goal.insert_block-overflow_add-inner
insert_block-overflow_add-inner t c =
    let none : Part = record { at = 0; size = 0; dim = 0 } in
    let known = first_split _ _ c.args.parts.now (length c.args.from.now) (length c.args.to.now) (first_rest c.args.parts.now none (omega arith)) c.requires.part c.requires.from_length c.requires.to_length c.requires.some in
    let size : length c.args.to.now < 2 ^ 64 = search rules in
    omega (arith, known.fits)

pub insert_block-insert_within-requires : goal.insert_block-insert_within-requires
insert_block-insert_within-requires t c =
    let none : Part = record { at = 0; size = 0; dim = 0 } in
    let known = first_split _ _ c.args.parts.now (length c.args.from.now) (length c.args.to.now) (first_rest c.args.parts.now none (omega arith)) c.requires.part c.requires.from_length c.requires.to_length c.requires.some in
    let falls : 4 * length (take (length c.args.parts.now - 1) (drop 1 c.args.parts.now)) + 5 < 4 * length c.args.parts.now + 2 = omega (arith, length-take (length c.args.parts.now - 1) (drop 1 c.args.parts.now)) in
    (omega (arith, c.decreases), (known.part, (known.piece, (rw c.row_width-width.ensures (length-inner _ _ (length c.args.from.now) c.args.to.now known), c.requires.some))))

pub insert_block-returns-in-len1-up : goal.insert_block-returns-in-len1-up
insert_block-returns-in-len1-up t c =
    let none : Part = record { at = 0; size = 0; dim = 0 } in
    let first = get_or c.args.parts.now 0 none in
    let split = first_rest c.args.parts.now none (omega arith) in
    let known = first_split _ _ c.args.parts.now (length c.args.from.now) (length c.args.to.now) split c.requires.part c.requires.from_length c.requires.to_length c.requires.some in
    let inner = rw c.row_width-width.ensures at c.insert_within.ensures.value in
    record { value = insert_first c.args.how _ _ c.args.parts.now c.args.from.now c.args.to.now c.insert_within.new.to _ split known inner (ap (λ w. put_mid (first.at * w) ((first.at + first.size) * w - first.at * w) c.args.to.now c.insert_within.new.to) c.row_width-width.ensures) }

pub insert_blocks-loop-i-preserved : goal.insert_blocks-loop-i-preserved
insert_blocks-loop-i-preserved t c =
    let source : product (sizes c.args.rest.now) ≡ c.row_size-piece.result = row_of c.args.count (product (sizes c.args.rest.now)) (length c.args.from.now) c.requires.from_length c.requires.some ∙ sym c.row_size-piece.ensures in
    let some : 0 < length c.args.to.now = rows_some c.args.count c.args.rest.now (length c.args.from.now) (length c.args.to.now) c.requires.part c.requires.from_length c.requires.to_length c.requires.some in
    let width : product (dims_of c.args.rest.now) ≡ c.row_width-width.result = row_of c.args.count (product (dims_of c.args.rest.now)) (length c.args.to.now) c.requires.to_length some ∙ sym c.row_width-width.ensures in
    insert_turn c.args.how c.args.count c.loop-i.i _ _ (sizes c.args.rest.now) c.args.from.now (starts c.args.rest.now) (dims_of c.args.rest.now) c.loop-i.to c.insert.new.to _ _ source width c.loop-i-test.true
    (c.loop-i.auto.to ∙ c.requires.to_length ∙ ap (λ v. c.args.count * v) width) c.insert.auto.to c.insert.ensures.value refl c.loop-i.invariant

pub insert_blocks-returns : goal.insert_blocks-returns
insert_blocks-returns t c =
    let some : 0 < length c.args.to.now = rows_some c.args.count c.args.rest.now (length c.args.from.now) (length c.args.to.now) c.requires.part c.requires.from_length c.requires.to_length c.requires.some in
    let width : product (dims_of c.args.rest.now) ≡ c.row_width-width.result = row_of c.args.count (product (dims_of c.args.rest.now)) (length c.args.to.now) c.requires.to_length some ∙ sym c.row_width-width.ensures in
    record { value = insert_done c.args.how c.args.count c.loop-i.i _ (sizes c.args.rest.now) c.args.from.now (starts c.args.rest.now) (dims_of c.args.rest.now) c.loop-i.to _ c.loop-i-test.false (c.loop-i.auto.to ∙ c.requires.to_length ∙ ap (λ v. c.args.count * v) width) c.loop-i.invariant }

pub insert_block-row_width-width-requires-clause-some : goal.insert_block-row_width-width-requires-clause-some
insert_block-row_width-width-requires-clause-some t c =
    let filled : 0 < product (sizes c.args.parts.now) = omega (arith, c.requires.from_length, c.requires.some) in
    omega (arith, c.requires.to_length, positive_from_part (starts c.args.parts.now) (sizes c.args.parts.now) (dims_of c.args.parts.now) c.requires.part filled)

pub insert_blocks-row_width-width-requires-clause-some : goal.insert_blocks-row_width-width-requires-clause-some
insert_blocks-row_width-width-requires-clause-some t c =
    rows_some c.args.count c.args.rest.now (length c.args.from.now) (length c.args.to.now) c.requires.part c.requires.from_length c.requires.to_length c.requires.some
