use Rattle.std.proofs.Common.{◌≡◌, drop, map}
use Rattle.sial_syntax.specs.Tree.{block}
use Rattle.scalar_discipline.specs.Flat.{sided_of, sides_of, with_body}
use Rattle.scalar_discipline.proofs.placed.+walking.Given as goal

-- with the statements that are left there are all
abbrev pub invariant-flatten-loop-stmt : goal.invariant-flatten-loop-stmt
invariant-flatten-loop-stmt l =
    with_body (sides_of l.own) l.within (block (drop l.stmt-index l.stmts)) (map sided_of l.all.items)
    ≡ with_body (sides_of l.own) l.within (block l.stmts) (map sided_of l.fn.all.items)
