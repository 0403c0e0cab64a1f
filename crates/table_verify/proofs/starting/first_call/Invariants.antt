use Rattle.std.proofs.Common.{◌≡◌, drop}
use Rattle.table_verify.specs.Starting as spec
use Rattle.table_verify.proofs.starting.first_call.Given as goal

abbrev pub invariant-loop-at : goal.invariant-loop-at
invariant-loop-at l = spec.first_call l.procedures l.starts l.at (drop l.at l.code) ≡ spec.first_call l.fn.procedures l.fn.starts 0 l.fn.code
