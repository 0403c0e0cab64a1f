use Rattle.std.proofs.Common.{◌≡◌, drop, replicate, false}
use Rattle.scalar_discipline.specs.Deeds.{marked}
use Rattle.scalar_discipline.proofs.deeds.marks.Given as goal

-- with the numbers that are left the places are marked that all mark
abbrev pub invariant-loop-number : goal.invariant-loop-number
invariant-loop-number l = marked (drop l.number-index l.numbers) l.marks.items ≡ marked l.numbers (replicate l.count false)
