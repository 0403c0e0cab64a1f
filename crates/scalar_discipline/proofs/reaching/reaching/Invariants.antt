use Rattle.std.proofs.Common.{◌≡◌}
use Rattle.scalar_discipline.specs.Calls.{lists}
use Rattle.scalar_discipline.specs.Rounds.{reach_after}
use Rattle.scalar_discipline.proofs.reaching.reaching.Given as goal

-- so many rounds are done
abbrev pub invariant-loop-turn : goal.invariant-loop-turn
invariant-loop-turn l = l.reach.items ≡ reach_after (lists l.calls) l.to l.turn
