use Rattle.std.proofs.Common.{◌≡◌, ◌+◌, ◌≤◌, drop}
use Rattle.table_verify.specs.Things.{begun_in}
use Rattle.table_verify.proofs.numbering.begun_in.Given as goal

abbrev pub invariant-loop-at : goal.invariant-loop-at
invariant-loop-at l = (l.count + begun_in (drop l.at l.code) ≡ begun_in l.fn.code) × (l.count ≤ l.at)
