use Rattle.std.proofs.Common.{◌∙◌, arith}
use Rattle.exec_names.specs.declared.extent.Extent.{Extent}
use Rattle.exec_sides.proofs.Filling.{filled_all, lengths_are}
use Rattle.exec_sides.proofs.indices.dims_of.Goals as goal

pub returns : goal.returns
returns c =
    filled_all (λ (e : Extent). e.len) c.args.extents.now c.loop-k.dims c.loop-k.k (omega arith) (omega arith) c.loop-k.invariant.done
    ∙ lengths_are c.args.extents.now
