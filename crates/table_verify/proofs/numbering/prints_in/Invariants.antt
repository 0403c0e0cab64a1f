use Rattle.std.proofs.Common.{◌≡◌, ◌+◌, ◌≤◌, drop}
use Rattle.table_verify.specs.Things.{prints_in}
use Rattle.table_verify.proofs.numbering.prints_in.Given as goal

abbrev pub invariant-loop-at : goal.invariant-loop-at
invariant-loop-at l = (l.count + prints_in (drop l.at l.code) ≡ prints_in l.fn.code) × (l.count ≤ l.at)
