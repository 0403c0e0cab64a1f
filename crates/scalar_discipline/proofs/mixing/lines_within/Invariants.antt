use Rattle.std.proofs.Common.{◌≡◌, drop, map, None, replicate}
use Rattle.scalar_discipline.specs.Deeds.{named_within}
use Rattle.scalar_discipline.specs.Flat.{sided_of}
use Rattle.scalar_discipline.specs.Mixing.{lines_of}
use Rattle.scalar_discipline.proofs.mixing.lines_within.Given as goal

-- with the statements that are left the lines are those of all
abbrev pub invariant-loop-stmt : goal.invariant-loop-stmt
invariant-loop-stmt l = lines_of named_within (map sided_of (drop l.stmt-index l.all)) l.lines.items ≡ lines_of named_within (map sided_of l.all) (replicate l.count None)
