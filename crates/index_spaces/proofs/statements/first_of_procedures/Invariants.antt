use Rattle.std.proofs.Common.{◌≡◌, drop, map}
use Rattle.sial_syntax.specs.Tree.{procedure, tree}
use Rattle.index_spaces.specs.Found.{seen_at}
use Rattle.index_spaces.specs.Walk.{first_of_all}
use Rattle.index_spaces.proofs.statements.first_of_procedures.Given as goal

-- the procedures that are left find what all find
abbrev pub invariant-loop-procedure : goal.invariant-loop-procedure
invariant-loop-procedure l =
    first_of_all (tree l.program) l.spaces.spaces (map procedure (drop l.procedure-index l.procs)) (seen_at l.first)
    ≡ first_of_all (tree l.program) l.spaces.spaces (map procedure l.procs) (seen_at l.fn.first)
