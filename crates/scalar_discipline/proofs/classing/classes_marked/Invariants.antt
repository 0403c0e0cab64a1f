use Rattle.std.proofs.Common.{◌≡◌, ◌++◌, ◌-◌, map}
use Rattle.sial_syntax.specs.Boxes.{numbers_from}
use Rattle.scalar_discipline.specs.Deeds.{class_marked}
use Rattle.scalar_discipline.proofs.classing.classes_marked.Given as goal

-- the classes so far, and those of the scalars that are left, are those of all
abbrev pub invariant-loop-scalar : goal.invariant-loop-scalar
invariant-loop-scalar l =
    l.classes.items ++ map (class_marked l.written l.mixed) (numbers_from l.scalar (l.count - l.scalar)) ≡ map (class_marked l.written l.mixed) (numbers_from 0 l.count)
