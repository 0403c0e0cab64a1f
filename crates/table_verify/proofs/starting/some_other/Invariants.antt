use Rattle.std.proofs.Common.{◌≡◌, drop}
use Rattle.table_verify.specs.Starting as spec
use Rattle.table_verify.proofs.starting.some_other.Given as goal

abbrev pub invariant-loop-number : goal.invariant-loop-number
invariant-loop-number l = spec.some_other l.starts l.number (drop l.number l.procedures) ≡ spec.some_other l.fn.starts 0 l.fn.procedures
