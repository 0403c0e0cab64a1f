use Rattle.std.proofs.Common.{◌≡◌, drop, map, option_map}
use Rattle.sial_syntax.specs.Tree.{procedure}
use Rattle.shape_check.specs.Known.{tree_of}
use Rattle.shape_check.specs.Refused.{fault_of}
use Rattle.shape_check.specs.Walk.{first_of_procedures}
use Rattle.shape_check.proofs.walk.first_of_procedures.Given as goal

-- the procedures that are left find what all find
abbrev pub invariant-loop-procedure : goal.invariant-loop-procedure
invariant-loop-procedure l =
    first_of_procedures (tree_of l.declared) (map procedure (drop l.procedure-index l.procs)) (option_map fault_of l.first)
    ≡ first_of_procedures (tree_of l.declared) (map procedure l.procs) (option_map fault_of l.fn.first)
