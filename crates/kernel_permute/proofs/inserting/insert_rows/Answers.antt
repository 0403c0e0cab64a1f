use Rattle.std.proofs.Common.{◌≡◌, ◌∙◌, [], ◌∷◌, refl, arith}
use Rattle.kernel_permute.specs.Positions.{product}
use Rattle.kernel_permute.proofs.InsertingLemmas.{insert_done, insert_turn}
use Rattle.kernel_permute.proofs.inserting.insert_rows.Goals as goal

pub loop-i-preserved : goal.loop-i-preserved
loop-i-preserved c =
    let source : product (c.args.row.size ∷ []) ≡ c.args.row.size = omega arith in
    let width : product (c.args.row.dim ∷ []) ≡ c.args.row.dim = omega arith in
    insert_turn c.args.how c.args.count c.loop-i.i c.args.row.size c.args.row.dim (c.args.row.size ∷ []) c.args.from.now (c.args.row.at ∷ []) (c.args.row.dim ∷ []) c.loop-i.to c.insert_row.new.to _ _ source width c.loop-i-test.true
    (c.loop-i.auto.to ∙ c.requires.to_length) c.insert_row.auto.to c.insert_row.ensures.value refl c.loop-i.invariant

pub returns : goal.returns
returns c = record { value = insert_done c.args.how c.args.count c.loop-i.i c.args.row.dim (c.args.row.size ∷ []) c.args.from.now (c.args.row.at ∷ []) (c.args.row.dim ∷ []) c.loop-i.to _ c.loop-i-test.false (c.loop-i.auto.to ∙ c.requires.to_length) c.loop-i.invariant }
