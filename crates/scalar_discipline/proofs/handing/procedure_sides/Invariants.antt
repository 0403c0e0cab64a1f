use Rattle.std.proofs.Common.{◌≡◌, map}
use Rattle.scalar_discipline.specs.Calls.{lists}
use Rattle.scalar_discipline.specs.Flat.{sides_of}
use Rattle.scalar_discipline.specs.Handing.{sides_after}
use Rattle.scalar_discipline.proofs.handing.procedure_sides.Given as goal

-- so many rounds are done
abbrev pub invariant-loop-turn : goal.invariant-loop-turn
invariant-loop-turn l = map sides_of l.sides.items ≡ sides_after l.body (lists l.calls) l.turn
