use Rattle.std.proofs.Common.{◌≡◌, drop}
use Rattle.sial_syntax.specs.Tree.{block, tree}
use Rattle.index_spaces.specs.Found.{seen_at}
use Rattle.index_spaces.specs.Walk.{first_in}
use Rattle.index_spaces.proofs.statements.+walking.Given as goal

-- the statements that are left find what all find
abbrev pub invariant-first_in-loop-stmt : goal.invariant-first_in-loop-stmt
invariant-first_in-loop-stmt l =
    first_in (tree l.program) l.spaces.spaces (block (drop l.stmt-index l.stmts)) (seen_at l.first)
    ≡ first_in (tree l.program) l.spaces.spaces (block l.stmts) (seen_at l.fn.first)
