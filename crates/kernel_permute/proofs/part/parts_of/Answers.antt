use Rattle.std.proofs.Common.{◌≡◌, ◌∙◌, ap, arith}
use Rattle.kernel_permute.specs.Parts.{dims_of, sizes, starts}
use Rattle.kernel_permute.proofs.PartsLemmas.{dims_of-parts_with, parts_done, parts_with, sizes-parts_with, starts-parts_with}
use Rattle.kernel_permute.proofs.part.parts_of.Goals as goal

pub returns : goal.returns
returns g c =
    let made : c.loop-k.parts ≡ parts_with c.args.at.now c.args.size.now c.args.dims.now = parts_done c.loop-k.parts c.args.at.now c.args.size.now c.args.dims.now c.loop-k.k (omega arith) c.loop-k.invariant.long c.loop-k.invariant.done in
    record {
      starts = ap starts made ∙ starts-parts_with c.args.at.now c.args.size.now c.args.dims.now c.requires.part;
      sizes = ap sizes made ∙ sizes-parts_with c.args.at.now c.args.size.now c.args.dims.now c.requires.part;
      dims = ap dims_of made ∙ dims_of-parts_with c.args.at.now c.args.size.now c.args.dims.now c.requires.part;
    }
