use Rattle.std.proofs.Common.{◌≡◌, length, take, sym, ap, ◌∙◌}
use Rattle.std.proofs.lemmas.List.{length-map}
use Rattle.exec_names.specs.Naming.{extent_of}
use Rattle.exec_sides.specs.Seen.{extents_of, seen, sight_of}
use Rattle.exec_sides.proofs.PartBlocks.{part-arrays, slice-arrays}
use Rattle.exec_sides.proofs.parts.slice.Goals as goal

pub slice_out_any-requires-clause-part : goal.slice_out_any-requires-clause-part
slice_out_any-requires-clause-part c =
    let same : length c.args.to.now.extents.now ≡ length c.args.from.now.shape.extents.now = sym (length-map c.args.to.now.extents.now extent_of) ∙ (c.requires.fits.same ∙ length-map c.args.from.now.shape.extents.now extent_of) in
    part-arrays (extents_of c.args.to.now.extents.now) (extents_of c.args.from.now.shape.extents.now) _ _ _ c.requires.within c.starts_of-at.ensures c.dims_of-size.ensures (ap (λ n. take n c.dims_of-dims.result) same ∙ c.dims_of-dims.ensures)

pub returns : goal.returns
returns c =
    let same : length c.args.to.now.extents.now ≡ length c.args.from.now.shape.extents.now = sym (length-map c.args.to.now.extents.now extent_of) ∙ (c.requires.fits.same ∙ length-map c.args.from.now.shape.extents.now extent_of) in
    slice-arrays c.args.how (sight_of c.args.to.now c.args.into.now) (seen c.args.from.now) c.slice_out_any.new.to _ _ _ c.requires.fits.target c.requires.within
    c.starts_of-at.ensures c.dims_of-size.ensures (ap (λ n. take n c.dims_of-dims.result) same ∙ c.dims_of-dims.ensures) c.slice_out_any.ensures.value
