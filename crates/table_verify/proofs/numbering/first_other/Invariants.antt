use Rattle.std.proofs.Common.{◌≡◌, drop}
use Rattle.sial_syntax.specs.Tree.{tree}
use Rattle.table_verify.specs.Numbering.{first_other}
use Rattle.table_verify.proofs.numbering.first_other.Given as goal

abbrev pub invariant-loop-at : goal.invariant-loop-at
invariant-loop-at l = first_other (tree l.program) l.texts l.next l.at (drop l.at l.code) ≡ first_other (tree l.fn.program) l.fn.texts l.fn.start 0 l.fn.code
