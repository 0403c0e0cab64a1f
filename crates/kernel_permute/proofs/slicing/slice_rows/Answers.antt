use Rattle.std.proofs.Common.{◌≡◌, ◌∙◌, [], ◌∷◌, refl, arith}
use Rattle.kernel_permute.specs.Positions.{product}
use Rattle.kernel_permute.proofs.SlicingLemmas.{slice_done, slice_turn}
use Rattle.kernel_permute.proofs.slicing.slice_rows.Goals as goal

pub loop-i-preserved : goal.loop-i-preserved
loop-i-preserved c =
    let source : product (c.args.row.dim ∷ []) ≡ c.args.row.dim = omega arith in
    let piece : product (c.args.row.size ∷ []) ≡ c.args.row.size = omega arith in
    slice_turn c.args.how c.args.count c.loop-i.i c.args.row.dim c.args.row.size (c.args.row.dim ∷ []) (c.args.row.at ∷ []) (c.args.row.size ∷ []) c.args.from.now c.loop-i.to c.slice_row.new.to _ _ (c.requires.part, tt) source piece c.loop-i-test.true
    (c.loop-i.auto.to ∙ c.requires.to_length) c.slice_row.auto.to c.slice_row.ensures.value refl c.loop-i.invariant

pub returns : goal.returns
returns c = record { value = slice_done c.args.how c.args.count c.loop-i.i c.args.row.size (c.args.row.dim ∷ []) (c.args.row.at ∷ []) (c.args.row.size ∷ []) c.args.from.now c.loop-i.to _ c.loop-i-test.false (c.loop-i.auto.to ∙ c.requires.to_length) c.loop-i.invariant }
