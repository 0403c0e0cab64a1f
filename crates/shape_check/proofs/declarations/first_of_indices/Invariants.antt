use Rattle.std.proofs.Common.{◌≡◌, drop, option_map}
use Rattle.shape_check.specs.Known.{tree_of}
use Rattle.shape_check.specs.Refused.{fault_of}
use Rattle.shape_check.specs.Walk.{first_of_indices}
use Rattle.shape_check.proofs.declarations.first_of_indices.Given as goal

-- the declarations that are left find what all find
abbrev pub invariant-loop-index : goal.invariant-loop-index
invariant-loop-index l =
    first_of_indices (tree_of l.declared) (drop l.index-index l.indices) (option_map fault_of l.first)
    ≡ first_of_indices (tree_of l.declared) l.indices (option_map fault_of l.fn.first)
