use Rattle.std.proofs.Common.{◌≡◌, drop, option_map}
use Rattle.sial_syntax.specs.Tree.{block}
use Rattle.shape_check.specs.Known.{tree_of}
use Rattle.shape_check.specs.Refused.{fault_of}
use Rattle.shape_check.specs.Walk.{first_in}
use Rattle.shape_check.proofs.walk.+walking.Given as goal

-- the statements that are left find what all find
abbrev pub invariant-first_in-loop-stmt : goal.invariant-first_in-loop-stmt
invariant-first_in-loop-stmt l =
    first_in (tree_of l.declared) l.bound (block (drop l.stmt-index l.stmts)) (option_map fault_of l.first)
    ≡ first_in (tree_of l.declared) l.bound (block l.stmts) (option_map fault_of l.fn.first)
