use Rattle.std.proofs.Common.{◌≡◌, [], drop}
use Rattle.table_verify.specs.Rest.{numbered, seen}
use Rattle.table_verify.specs.Names as spec
use Rattle.table_verify.proofs.declared.scalars.Given as goal

abbrev pub invariant-loop-entry : goal.invariant-loop-entry
invariant-loop-entry l = spec.each numbered l.scalars.items (drop l.entry-index l.entries) (seen l.rest) ≡ spec.each numbered [] l.entries (seen l.start)
