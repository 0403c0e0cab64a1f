use Rattle.std.proofs.Common.{◌≡◌, length}
use Rattle.kernel_contract.specs.Product.{FrontSet}
use Rattle.kernel_contract.proofs.fronts.set_front.Given as goal

abbrev pub invariant-loop-i : goal.invariant-loop-i
invariant-loop-i g l = record {
  len : length l.to ≡ 4;
  done : FrontSet l.i g.row.N l.part l.initial.to l.to;
}
