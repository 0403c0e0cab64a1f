use Rattle.std.proofs.Common.{◌≡◌, [], drop}
use Rattle.table_verify.specs.Rest.{seen}
use Rattle.table_verify.specs.Names as spec
use Rattle.table_verify.proofs.declared.arrays.Given as goal

abbrev pub invariant-loop-entry : goal.invariant-loop-entry
invariant-loop-entry l = spec.each spec.array l.arrays.items (drop l.entry-index l.entries) (seen l.rest) ≡ spec.each spec.array [] l.entries (seen l.start)
