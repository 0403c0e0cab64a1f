use Rattle.std.proofs.Common.{◌≡◌, ◌+◌, ◌-◌, length}
use Rattle.kernel_contract.specs.Walks.{IsRun, Stands, gone}
use Rattle.kernel_contract.proofs.walk.Walk.run.Given as goal

abbrev pub invariant-loop-self : goal.invariant-loop-self
invariant-loop-self g l = record {
  stands : Stands l.axes l.self;
  run : IsRun l.axes (gone l.fn.axes l.fn.self) l.run;
  gone : gone l.axes l.self ≡ gone l.fn.axes l.fn.self + l.run.len;
  len_a : length l.run.a ≡ g.row.N;
  len_b : length l.run.b ≡ g.row.N;
  len_to : length l.run.to ≡ g.row.N;
}

abbrev pub decreases-loop-self : goal.decreases-loop-self
decreases-loop-self g l = g.row.N - l.run.len
