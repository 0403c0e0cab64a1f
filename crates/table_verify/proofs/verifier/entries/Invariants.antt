use Rattle.std.proofs.Common.{◌≡◌, ◌++◌, drop}
use Rattle.table_verify.specs.Reading.{entries_in}
use Rattle.table_verify.proofs.verifier.entries.Given as goal

abbrev pub invariant-loop-procedure : goal.invariant-loop-procedure
invariant-loop-procedure l = l.entries.items ++ entries_in (drop l.procedure-index l.procedures) ≡ entries_in l.procedures
