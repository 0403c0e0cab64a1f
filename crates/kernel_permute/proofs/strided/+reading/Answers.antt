use Rattle.std.proofs.Common.{◌∙◌, ◌-◌, ◌*◌, length, get_or, take, drop, ap, sym, refl, arith}
use Rattle.std.proofs.lemmas.Slice.{first_rest}
use Rattle.kernel_permute.specs.declared.axis.Axis.{Axis}
use Rattle.kernel_permute.proofs.StridedLemmas.{read_turn, read_done, row_width, rows_fill}
use Rattle.kernel_permute.proofs.strided.+reading.Goals as goal

pub read_block-loop-i-preserved : goal.read_block-loop-i-preserved
read_block-loop-i-preserved t c =
    let none : Axis = record { len = 0; stride = 0 } in
    let split = first_rest c.args.axes.now none (omega arith) in
    let fill = c.loop-i.auto.to ∙ rows_fill _ _ c.args.axes.now (length c.args.to.now) split c.requires.same_length c.requires.some ∙ ap (λ w. (get_or c.args.axes.now 0 none).len * w) (sym c.row_width-width.ensures) in
    read_turn c.args.how c.args.from.now c.args.base _ c.loop-i.i _ _ c.args.axes.now c.loop-i.to c.read.new.to _ _ split
    (row_width _ _ c.args.axes.now (length c.args.to.now) split c.requires.same_length c.requires.some ∙ sym c.row_width-width.ensures)
    c.loop-i-test.true fill c.read.auto.to c.read.ensures.value refl c.loop-i.invariant

pub read_block-returns-after-loop-i : goal.read_block-returns-after-loop-i
read_block-returns-after-loop-i t c =
    let none : Axis = record { len = 0; stride = 0 } in
    let split = first_rest c.args.axes.now none (omega arith) in
    let fill = c.loop-i.auto.to ∙ rows_fill _ _ c.args.axes.now (length c.args.to.now) split c.requires.same_length c.requires.some ∙ ap (λ w. (get_or c.args.axes.now 0 none).len * w) (sym c.row_width-width.ensures) in
    record { value = read_done c.args.how c.args.from.now c.args.base _ c.loop-i.i (get_or c.args.axes.now 0 none) (take (length c.args.axes.now - 1) (drop 1 c.args.axes.now)) c.args.axes.now c.loop-i.to _ c.loop-i-test.false fill c.loop-i.invariant }
