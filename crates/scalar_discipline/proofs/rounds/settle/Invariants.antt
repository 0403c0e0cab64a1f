use Rattle.std.proofs.Common.{◌≡◌}
use Rattle.scalar_discipline.specs.Calls.{lists}
use Rattle.scalar_discipline.specs.Rounds.{depths_after}
use Rattle.scalar_discipline.proofs.rounds.settle.Given as goal

-- so many rounds are done
abbrev pub invariant-loop-turn : goal.invariant-loop-turn
invariant-loop-turn l = l.depths.items ≡ depths_after (lists l.calls) l.turn
