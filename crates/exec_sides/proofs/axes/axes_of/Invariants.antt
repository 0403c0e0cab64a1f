use Rattle.std.proofs.Common.{◌≡◌, ◌≤◌, filter, length, map, take}
use Rattle.sial_syntax.specs.Agreeing.{contains, same_flag}
use Rattle.exec_sides.specs.Axes.{axes_in, axis_under}
use Rattle.exec_sides.proofs.axes.axes_of.Given as goal

abbrev pub invariant-loop-index : goal.invariant-loop-index
invariant-loop-index l = record {
  done : axes_in l.axes ≡ map (axis_under l.shapes l.own) (filter (λ i. same_flag l.shared (contains l.other i)) (take l.index-index l.own.at.now));
  few : l.axes.count ≤ l.index-index;
  long : length l.axes.list ≡ 6;
}
