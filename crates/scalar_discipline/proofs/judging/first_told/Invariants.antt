use Rattle.std.proofs.Common.{◌≡◌, drop, map}
use Rattle.sial_syntax.specs.Tree.{tree}
use Rattle.scalar_discipline.specs.Discipline.{seen}
use Rattle.scalar_discipline.specs.Flat.{sided_of}
use Rattle.scalar_discipline.specs.Judging.{first_told}
use Rattle.scalar_discipline.proofs.judging.first_told.Given as goal

-- the statements that are left find what all find
abbrev pub invariant-loop-s : goal.invariant-loop-s
invariant-loop-s l =
    first_told (tree l.program) l.classes l.depths (map sided_of (drop l.s-index l.all)) (seen l.first)
    ≡ first_told (tree l.program) l.classes l.depths (map sided_of l.all) (seen l.fn.first)
