use Rattle.std.proofs.Common.{◌≡◌, ◌+◌, ◌≤◌, true, drop}
use Rattle.kernel_contract.specs.Walks.{Stands, count, number}
use Rattle.kernel_contract.proofs.walk.Walk.advance.Given as goal

abbrev pub invariant-loop-i : goal.invariant-loop-i
invariant-loop-i g l = record {
  within : l.i ≤ g.row.R;
  left : l.self.left ≡ true;
  stands : Stands l.axes l.self;
  owed : number l.axes l.self.at + count (drop l.i l.axes) ≡ number l.fn.axes l.fn.self.at + 1;
}

abbrev pub decreases-loop-i : goal.decreases-loop-i
decreases-loop-i g l = l.i
