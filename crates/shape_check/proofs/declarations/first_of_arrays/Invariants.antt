use Rattle.std.proofs.Common.{◌≡◌, drop, option_map}
use Rattle.shape_check.specs.Known.{tree_of}
use Rattle.shape_check.specs.Refused.{fault_of}
use Rattle.shape_check.specs.Walk.{first_of_arrays}
use Rattle.shape_check.proofs.declarations.first_of_arrays.Given as goal

-- the declarations that are left find what all find
abbrev pub invariant-loop-array : goal.invariant-loop-array
invariant-loop-array l =
    first_of_arrays (tree_of l.declared) (drop l.array-index l.arrays) (option_map fault_of l.first)
    ≡ first_of_arrays (tree_of l.declared) l.arrays (option_map fault_of l.fn.first)
