use Rattle.std.proofs.Common.{◌≡◌, length, arith}
use Rattle.kernel_permute.proofs.SlicingLemmas.{sliced_none}
use Rattle.kernel_permute.proofs.slicing.slice_out.Goals as goal

pub returns-then-is_empty : goal.returns-then-is_empty
returns-then-is_empty g c =
    let none : length c.args.to.now ≡ 0 = grind arith in
    record { value = sliced_none c.args.how c.args.dims.now c.args.at.now c.args.size.now c.args.from.now c.args.to.now none }
