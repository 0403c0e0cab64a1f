use Rattle.std.proofs.Common.{◌≡◌, drop}
use Rattle.scalar_discipline.specs.Discipline.{seen}
use Rattle.scalar_discipline.specs.Mixing.{first_mixed}
use Rattle.scalar_discipline.proofs.mixing.first_mixed.Given as goal

-- the arrays that are left find what all find
abbrev pub invariant-loop-place : goal.invariant-loop-place
invariant-loop-place l = first_mixed l.outer l.inner l.place (drop l.place l.arrays) (seen l.first) ≡ first_mixed l.outer l.inner 0 l.arrays (seen l.fn.first)
