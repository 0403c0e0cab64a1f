use Rattle.std.proofs.Common.{◌≡◌, ◌++◌, drop, map}
use Rattle.std.specs.List.{enumerate_from}
use Rattle.scalar_discipline.specs.Deeds.{array_marked}
use Rattle.scalar_discipline.proofs.classing.sides_marked.Given as goal

-- the sides so far, and those of the arrays that are left, are those of all
abbrev pub invariant-loop-place : goal.invariant-loop-place
invariant-loop-place l =
    l.sides.items ++ map (array_marked l.within l.outside) (enumerate_from l.place (drop l.place l.arrays)) ≡ map (array_marked l.within l.outside) (enumerate_from 0 l.arrays)
