use Rattle.std.proofs.Common.{◌≡◌, length, map, take}
use Rattle.exec_names.specs.declared.extent.Extent.{Extent}
use Rattle.exec_sides.proofs.indices.dims_of.Given as goal

abbrev pub invariant-loop-k : goal.invariant-loop-k
invariant-loop-k l = record {
  done : take l.k l.dims ≡ map (λ (e : Extent). e.len) (take l.k l.extents);
  long : length l.dims ≡ 6;
}
