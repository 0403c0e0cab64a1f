use Rattle.std.proofs.Common.{◌≡◌, length, take, sym, ap, ◌∙◌}
use Rattle.std.proofs.lemmas.List.{length-map}
use Rattle.exec_names.specs.Naming.{extent_of}
use Rattle.exec_sides.specs.Seen.{extents_of, seen, sight_of}
use Rattle.exec_sides.proofs.PartBlocks.{insert-arrays, part-arrays}
use Rattle.exec_sides.proofs.parts.insert.Goals as goal

pub put_in_any-requires-clause-part : goal.put_in_any-requires-clause-part
put_in_any-requires-clause-part c =
    let same : length c.args.to.now.extents.now ≡ length c.args.from.now.shape.extents.now = sym (length-map c.args.to.now.extents.now extent_of) ∙ (c.requires.fits.same ∙ length-map c.args.from.now.shape.extents.now extent_of) in
    part-arrays (extents_of c.args.from.now.shape.extents.now) (extents_of c.args.to.now.extents.now) _ _ _ c.requires.within
    (ap (λ n. take n c.starts_of-at.result) same ∙ c.starts_of-at.ensures) (ap (λ n. take n c.dims_of-size.result) same ∙ c.dims_of-size.ensures) c.dims_of-dims.ensures

pub returns : goal.returns
returns c =
    let same : length c.args.to.now.extents.now ≡ length c.args.from.now.shape.extents.now = sym (length-map c.args.to.now.extents.now extent_of) ∙ (c.requires.fits.same ∙ length-map c.args.from.now.shape.extents.now extent_of) in
    insert-arrays c.args.how (sight_of c.args.to.now c.args.into.now) (seen c.args.from.now) c.put_in_any.new.to _ _ _ c.requires.fits.target c.requires.within
    (ap (λ n. take n c.starts_of-at.result) same ∙ c.starts_of-at.ensures) (ap (λ n. take n c.dims_of-size.result) same ∙ c.dims_of-size.ensures) c.dims_of-dims.ensures c.put_in_any.ensures.value
