use Rattle.std.proofs.Common.{ℕ, List, length, take, sym, ap, ◌∙◌, subst}
use Rattle.std.proofs.lemmas.List.{length-map}
use Rattle.kernel_permute.specs.Permuting.{IsOrder, picked}
use Rattle.kernel_permute.specs.Positions.{product}
use Rattle.exec_names.specs.Naming.{extent_of}
use Rattle.exec_sides.specs.Seen.{lengths_of, seen, sight_of}
use Rattle.exec_sides.proofs.Blocks.{copy-dims, copy-meets, copy-order, copy-picked}
use Rattle.exec_sides.proofs.Tuples.{volume-is}
use Rattle.exec_sides.proofs.copying.copy_by_name.Goals as goal

pub permute_any-requires-clause-order : goal.permute_any-requires-clause-order
permute_any-requires-clause-order c = subst (λ (order : List ℕ). IsOrder order) (sym c.order_of-order.ensures) (copy-order (sight_of c.args.to.now c.args.into.now) (seen c.args.from.now) c.requires.fits)

pub permute_any-requires-clause-from_length : goal.permute_any-requires-clause-from_length
permute_any-requires-clause-from_length c =
    let dims = copy-dims (sight_of c.args.to.now c.args.into.now) (seen c.args.from.now) c.requires.fits (length c.args.from.now.shape.extents.now) c.dims_of-dims.result (sym (length-map c.args.from.now.shape.extents.now extent_of)) c.dims_of-dims.ensures in
    c.requires.fits.source.words ∙ (sym (volume-is (lengths_of c.args.from.now.shape)) ∙ ap product (sym dims))

pub permute_any-requires-clause-to_length : goal.permute_any-requires-clause-to_length
permute_any-requires-clause-to_length c =
    let dims = copy-dims (sight_of c.args.to.now c.args.into.now) (seen c.args.from.now) c.requires.fits (length c.args.from.now.shape.extents.now) c.dims_of-dims.result (sym (length-map c.args.from.now.shape.extents.now extent_of)) c.dims_of-dims.ensures in
    c.requires.fits.target.words
    ∙ (sym (volume-is (lengths_of c.args.to.now))
    ∙ (ap product (sym (copy-picked (sight_of c.args.to.now c.args.into.now) (seen c.args.from.now) c.requires.fits))
    ∙ (ap (λ order. product (picked order (lengths_of c.args.from.now.shape))) (sym c.order_of-order.ensures)
    ∙ ap (λ ds. product (picked (take (length c.args.to.now.at.now) c.order_of-order.result) ds)) (sym dims))))

pub returns : goal.returns
returns c =
    let dims = copy-dims (sight_of c.args.to.now c.args.into.now) (seen c.args.from.now) c.requires.fits (length c.args.from.now.shape.extents.now) c.dims_of-dims.result (sym (length-map c.args.from.now.shape.extents.now extent_of)) c.dims_of-dims.ensures in
    copy-meets (sight_of c.args.to.now c.args.into.now) (seen c.args.from.now) c.requires.fits c.args.how
    (take (length c.args.to.now.at.now) c.dims_of-dims.result) (take (length c.args.to.now.at.now) c.order_of-order.result) c.args.into.now c.permute_any.new.to
    dims c.order_of-order.ensures c.requires.fits.target.words c.permute_any.ensures.value
