use Rattle.std.proofs.Common.{◌≡◌, drop, map}
use Rattle.scalar_discipline.specs.Flat.{sides_of}
use Rattle.scalar_discipline.specs.Handing.{hand_on, handed}
use Rattle.scalar_discipline.proofs.handing.hand_on.Given as goal

-- what the calls that are left hand on completes what all hand on
abbrev pub invariant-loop-call : goal.invariant-loop-call
invariant-loop-call l =
    hand_on (handed (sides_of l.own) (drop l.call-index l.calls)) (map sides_of l.given.items)
    ≡ hand_on (handed (sides_of l.own) l.calls) (map sides_of l.fn.given.items)
