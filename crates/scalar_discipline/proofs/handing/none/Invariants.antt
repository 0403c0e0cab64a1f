use Rattle.std.proofs.Common.{◌≡◌, ◌++◌, drop, map}
use Rattle.scalar_discipline.specs.Calls.{lists}
use Rattle.scalar_discipline.specs.Flat.{sides_of}
use Rattle.scalar_discipline.specs.Handing.{nowhere}
use Rattle.scalar_discipline.proofs.handing.none.Given as goal

-- no sides so far, and none for the procedures that are left
abbrev pub invariant-loop : goal.invariant-loop
invariant-loop l = map sides_of l.sides.items ++ nowhere (lists (drop l.index l.calls)) ≡ nowhere (lists l.calls)
