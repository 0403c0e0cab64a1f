use Rattle.std.proofs.Common.{◌≡◌, drop, map}
use Rattle.sial_syntax.specs.Tree.{procedure}
use Rattle.scalar_discipline.specs.Flat.{sided_of, sides_of, with_procedures}
use Rattle.scalar_discipline.proofs.placed.flatten_procedures.Given as goal

-- with the statements of the procedures that are left there are all
abbrev pub invariant-loop-place : goal.invariant-loop-place
invariant-loop-place l =
    with_procedures (map sides_of l.sides) l.place (map procedure (drop l.place l.procs)) (map sided_of l.all.items)
    ≡ with_procedures (map sides_of l.sides) 0 (map procedure l.procs) (map sided_of l.fn.all.items)
