use Rattle.std.proofs.Common.{◌≡◌, ◌++◌, drop}
use Rattle.scalar_discipline.specs.Calls.{lists}
use Rattle.scalar_discipline.specs.Rounds.{deeper}
use Rattle.scalar_discipline.proofs.rounds.deeper.Given as goal

-- the depths so far, and those of the procedures that are left, are those of all
abbrev pub invariant-loop-own : goal.invariant-loop-own
invariant-loop-own l = l.next.items ++ deeper (lists (drop l.own-index l.calls)) l.depths ≡ deeper (lists l.calls) l.depths
