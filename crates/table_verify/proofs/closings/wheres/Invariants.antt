use Rattle.std.proofs.Common.{◌≡◌, ◌-◌, []}
use Rattle.table_verify.specs.Rest.{seen}
use Rattle.table_verify.specs.Closings as spec
use Rattle.table_verify.proofs.closings.wheres.Given as goal

abbrev pub invariant-loop-turn : goal.invariant-loop-turn
invariant-loop-turn l = spec.wheres l.line (l.most - l.turn) l.wheres.items (seen l.rest) ≡ spec.wheres l.line l.most [] (seen l.start)
