use Rattle.std.proofs.Common.{◌≡◌, length}
use Rattle.kernel_contract.specs.Panels.{IsPanel}
use Rattle.kernel_contract.proofs.panel.pack.Given as goal

abbrev pub invariant-loop-k : goal.invariant-loop-k
invariant-loop-k l = record {
  len : length l.panel ≡ 64;
  done : IsPanel l.from l.lanes l.positions l.k l.panel;
}
