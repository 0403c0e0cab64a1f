use Rattle.std.proofs.Common.{◌≡◌, drop, map}
use Rattle.scalar_discipline.specs.Calls.{lists}
use Rattle.scalar_discipline.specs.Flat.{sides_of}
use Rattle.scalar_discipline.specs.Handing.{hand_on, handed_by}
use Rattle.scalar_discipline.proofs.handing.hand_all.Given as goal

-- what the procedures that are left hand on completes what all hand on
abbrev pub invariant-loop-place : goal.invariant-loop-place
invariant-loop-place l =
    hand_on (handed_by (map sides_of l.sides) l.place (lists (drop l.place l.calls))) (map sides_of l.given.items)
    ≡ hand_on (handed_by (map sides_of l.sides) 0 (lists l.calls)) (map sides_of l.fn.given.items)
