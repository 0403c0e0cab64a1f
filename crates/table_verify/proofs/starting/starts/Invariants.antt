use Rattle.std.proofs.Common.{◌≡◌, [], drop}
use Rattle.table_verify.specs.Starting as spec
use Rattle.table_verify.proofs.starting.starts.Given as goal

abbrev pub invariant-loop-at : goal.invariant-loop-at
invariant-loop-at l = spec.starts_onto l.starts.items l.at (drop l.at l.code) ≡ spec.starts_onto [] 0 l.fn.code
