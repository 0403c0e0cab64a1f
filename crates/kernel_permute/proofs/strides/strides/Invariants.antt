use Rattle.std.proofs.Common.{◌≡◌, drop, length}
use Rattle.kernel_permute.specs.Positions.{product, strides_of}
use Rattle.kernel_permute.proofs.strides.strides.Given as goal

abbrev pub invariant-loop-k : goal.invariant-loop-k
invariant-loop-k g l = record {
  done : drop l.k l.strides ≡ strides_of (drop l.k l.dims);
  width : l.width ≡ product (drop l.k l.dims);
  long : length l.strides ≡ length l.dims;
}
