use Rattle.std.proofs.Common.{◌≡◌, ◌++◌, take, drop, length}
use Rattle.kernel_permute.proofs.PartsLemmas.{parts_with}
use Rattle.kernel_permute.proofs.part.parts_of.Given as goal

abbrev pub invariant-loop-k : goal.invariant-loop-k
invariant-loop-k g l = record {
  done : take l.k l.parts ++ parts_with (drop l.k l.at) (drop l.k l.size) (drop l.k l.dims) ≡ parts_with l.at l.size l.dims;
  long : length l.parts ≡ length l.at;
}
