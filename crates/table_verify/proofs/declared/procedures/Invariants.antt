use Rattle.std.proofs.Common.{◌≡◌, [], drop, map}
use Rattle.sial_syntax.specs.Tree.{procedure}
use Rattle.table_verify.specs.Rest.{seen}
use Rattle.table_verify.specs.Names as spec
use Rattle.table_verify.proofs.declared.procedures.Given as goal

abbrev pub invariant-loop-entry : goal.invariant-loop-entry
invariant-loop-entry l = spec.each spec.named (map procedure l.procedures.items) (drop l.entry-index l.entries) (seen l.rest) ≡ spec.each spec.named [] l.entries (seen l.start)
