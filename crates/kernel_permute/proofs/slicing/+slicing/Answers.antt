use Rattle.std.proofs.Common.{◌≡◌, ◌∙◌, ◌+◌, ◌-◌, ◌*◌, ◌^◌, ◌<◌, length, take, drop, ap, sym, refl, arith, rules}
use Rattle.std.proofs.lemmas.List.{length-take}
use Rattle.std.proofs.lemmas.Slice.{first_rest}
use Rattle.kernel_permute.specs.declared.part.Part.{Part}
use Rattle.kernel_permute.specs.Parts.{starts, sizes, dims_of}
use Rattle.kernel_permute.specs.Positions.{product}
use Rattle.kernel_permute.proofs.PartsLemmas.{first_split, length-inner, positive_from_part, row_of, rows_some}
use Rattle.kernel_permute.proofs.SlicingLemmas.{slice_done, slice_first, slice_turn}
use Rattle.kernel_permute.proofs.slicing.+slicing.Goals as goal

pub slice_block-overflow_add-inner : goal.slice_block-overflow_add-inner
slice_block-overflow_add-inner t c =
    let none : Part = record { at = 0; size = 0; dim = 0 } in
    let known = first_split _ _ c.args.parts.now (length c.args.to.now) (length c.args.from.now) (first_rest c.args.parts.now none (omega arith)) c.requires.part c.requires.to_length c.requires.from_length c.requires.some in
    let size : length c.args.from.now < 2 ^ 64 = search rules in
    omega (arith, known.fits)

pub slice_block-slice_within-requires : goal.slice_block-slice_within-requires
slice_block-slice_within-requires t c =
    let none : Part = record { at = 0; size = 0; dim = 0 } in
    let known = first_split _ _ c.args.parts.now (length c.args.to.now) (length c.args.from.now) (first_rest c.args.parts.now none (omega arith)) c.requires.part c.requires.to_length c.requires.from_length c.requires.some in
    let falls : 4 * length (take (length c.args.parts.now - 1) (drop 1 c.args.parts.now)) + 5 < 4 * length c.args.parts.now + 2 = omega (arith, length-take (length c.args.parts.now - 1) (drop 1 c.args.parts.now)) in
    (omega (arith, c.decreases), (known.part, ((rw c.row_width-width.ensures (length-inner _ _ (length c.args.to.now) c.args.from.now known)), (known.piece, c.requires.some))))

pub slice_block-returns-in-len1-up : goal.slice_block-returns-in-len1-up
slice_block-returns-in-len1-up t c =
    let none : Part = record { at = 0; size = 0; dim = 0 } in
    let split = first_rest c.args.parts.now none (omega arith) in
    let known = first_split _ _ c.args.parts.now (length c.args.to.now) (length c.args.from.now) split c.requires.part c.requires.to_length c.requires.from_length c.requires.some in
    record { value = slice_first c.args.how _ _ c.args.parts.now c.args.from.now c.args.to.now c.slice_within.new.to split known (rw c.row_width-width.ensures at c.slice_within.ensures.value) }

pub slice_blocks-loop-i-preserved : goal.slice_blocks-loop-i-preserved
slice_blocks-loop-i-preserved t c =
    let some : 0 < length c.args.from.now = rows_some c.args.count c.args.rest.now (length c.args.to.now) (length c.args.from.now) c.requires.part c.requires.to_length c.requires.from_length c.requires.some in
    let width : product (dims_of c.args.rest.now) ≡ c.row_width-width.result = row_of c.args.count (product (dims_of c.args.rest.now)) (length c.args.from.now) c.requires.from_length some ∙ sym c.row_width-width.ensures in
    let piece : product (sizes c.args.rest.now) ≡ c.row_size-piece.result = row_of c.args.count (product (sizes c.args.rest.now)) (length c.args.to.now) c.requires.to_length c.requires.some ∙ sym c.row_size-piece.ensures in
    slice_turn c.args.how c.args.count c.loop-i.i _ _ (dims_of c.args.rest.now) (starts c.args.rest.now) (sizes c.args.rest.now) c.args.from.now c.loop-i.to c.slice.new.to _ _ c.requires.part width piece c.loop-i-test.true
    (c.loop-i.auto.to ∙ c.requires.to_length ∙ ap (λ v. c.args.count * v) piece) c.slice.auto.to c.slice.ensures.value refl c.loop-i.invariant

pub slice_blocks-returns : goal.slice_blocks-returns
slice_blocks-returns t c =
    let piece : product (sizes c.args.rest.now) ≡ c.row_size-piece.result = row_of c.args.count (product (sizes c.args.rest.now)) (length c.args.to.now) c.requires.to_length c.requires.some ∙ sym c.row_size-piece.ensures in
    record { value = slice_done c.args.how c.args.count c.loop-i.i _ (dims_of c.args.rest.now) (starts c.args.rest.now) (sizes c.args.rest.now) c.args.from.now c.loop-i.to _ c.loop-i-test.false (c.loop-i.auto.to ∙ c.requires.to_length ∙ ap (λ v. c.args.count * v) piece) c.loop-i.invariant }

pub slice_block-row_width-width-requires-clause-some : goal.slice_block-row_width-width-requires-clause-some
slice_block-row_width-width-requires-clause-some t c =
    let filled : 0 < product (sizes c.args.parts.now) = omega (arith, c.requires.to_length, c.requires.some) in
    omega (arith, c.requires.from_length, positive_from_part (starts c.args.parts.now) (sizes c.args.parts.now) (dims_of c.args.parts.now) c.requires.part filled)

pub slice_blocks-row_width-width-requires-clause-some : goal.slice_blocks-row_width-width-requires-clause-some
slice_blocks-row_width-width-requires-clause-some t c =
    rows_some c.args.count c.args.rest.now (length c.args.to.now) (length c.args.from.now) c.requires.part c.requires.to_length c.requires.from_length c.requires.some
