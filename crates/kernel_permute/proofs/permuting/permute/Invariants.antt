use Rattle.std.proofs.Common.{◌≡◌, take, length}
use Rattle.kernel_permute.proofs.PermutingLemmas.{axes_of}
use Rattle.kernel_permute.proofs.permuting.permute.Given as goal

abbrev pub invariant-loop-k : goal.invariant-loop-k
invariant-loop-k g l = record {
  done : take l.k l.axes ≡ axes_of l.dims l.apart (take l.k l.order);
  long : length l.axes ≡ length l.order;
}
