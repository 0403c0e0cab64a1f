use Rattle.std.proofs.Common.{◌≡◌, ◌++◌, map, drop}
use Rattle.sial_syntax.specs.Tree.{procedure}
use Rattle.scalar_discipline.specs.Calls.{calls_within, lists}
use Rattle.scalar_discipline.proofs.call.calls.Given as goal

-- the calls so far, and those of the procedures that are left, are those of all
abbrev pub invariant-loop-procedure : goal.invariant-loop-procedure
invariant-loop-procedure l =
    lists l.calls.items ++ map calls_within (map procedure (drop l.procedure-index l.procs)) ≡ map calls_within (map procedure l.procs)
