use Rattle.std.proofs.Common.{◌++◌, drop}
use Rattle.scalar_discipline.specs.Calls.{lists}
use Rattle.scalar_discipline.specs.Distinct.{LeadAlike}
use Rattle.scalar_discipline.proofs.distinct.all_distinct.Given as goal

-- those so far, and the calls of the procedures that are left, lead as all do
abbrev pub invariant-loop-own : goal.invariant-loop-own
invariant-loop-own l = LeadAlike (lists l.all.items ++ lists (drop l.own-index l.calls)) (lists l.calls)
