use Rattle.std.proofs.Common.{◌^◌, ◌<◌, arith}
use Rattle.exec_names.specs.Naming.{extent_of}
use Rattle.exec_sides.proofs.PartBlocks.{near_in}
use Rattle.exec_sides.proofs.parts.start_in.Goals as goal

pub overflow_cast-result : goal.overflow_cast-result
overflow_cast-result c =
    let short : c.args.whole.len < 2 ^ 32 = omega arith in
    let near = near_in (extent_of c.args.part) (extent_of c.args.whole) (2 ^ 32) c.requires short in
    let is = c.saturating_sub.ensures in
    omega (arith, is, near)
