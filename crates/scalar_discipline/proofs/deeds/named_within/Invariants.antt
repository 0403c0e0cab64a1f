use Rattle.std.proofs.Common.{◌≡◌, ◌++◌, drop, flat_map, map}
use Rattle.scalar_discipline.specs.Deeds.{named_within}
use Rattle.scalar_discipline.specs.Flat.{sided_of}
use Rattle.scalar_discipline.proofs.deeds.named_within.Given as goal

-- the numbers so far, and those of the statements that are left, are those of all
abbrev pub invariant-loop-stmt : goal.invariant-loop-stmt
invariant-loop-stmt l = l.numbers.items ++ flat_map named_within (map sided_of (drop l.stmt-index l.all)) ≡ flat_map named_within (map sided_of l.all)
