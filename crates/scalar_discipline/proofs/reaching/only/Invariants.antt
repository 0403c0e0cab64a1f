use Rattle.std.proofs.Common.{◌≡◌, ◌++◌, ◌==◌, ℕ, List, drop, map}
use Rattle.std.specs.List.{enumerate_from}
use Rattle.scalar_discipline.specs.declared.call.Call.{Call}
use Rattle.scalar_discipline.specs.Calls.{lists}
use Rattle.scalar_discipline.specs.Rounds.{reach_after}
use Rattle.scalar_discipline.proofs.reaching.only.Given as goal

-- what was found so far, and for the procedures that are left, is that of all
abbrev pub invariant-loop-from : goal.invariant-loop-from
invariant-loop-from l =
    l.reach.items ++ map (λ (x : ℕ × List Call). x.0 == l.to) (enumerate_from l.from (lists (drop l.from l.calls))) ≡ reach_after (lists l.calls) l.to 0
