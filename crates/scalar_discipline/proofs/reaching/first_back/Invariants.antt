use Rattle.std.proofs.Common.{◌≡◌, drop}
use Rattle.std.specs.List.{enumerate_from}
use Rattle.scalar_discipline.specs.Calls.{lists}
use Rattle.scalar_discipline.specs.Rounds.{first_back, lesser}
use Rattle.scalar_discipline.proofs.reaching.first_back.Given as goal

-- the least so far, or that of the procedures that are left, is the least of all
abbrev pub invariant-loop-procedure : goal.invariant-loop-procedure
invariant-loop-procedure l =
    lesser l.first (first_back (lists l.calls) (enumerate_from l.procedure (lists (drop l.procedure l.calls))))
    ≡ first_back (lists l.calls) (enumerate_from 0 (lists l.calls))
