use Rattle.std.proofs.Common.{◌≡◌, ◌≤◌, ◌-◌, ◌^◌, ◌+◌, drop, length}
use Rattle.std.specs.Prelude.{sum_by}
use Rattle.sial_meaning.specs.Costs.{arrays_of}
use Rattle.sial_syntax.specs.declared.array.ArrayKind.TheVariants.{Static, Temp, Local}
use Rattle.sial_syntax.specs.Spaces.{blocks_of}
use Rattle.sequential_costs.specs.Over.{over}
use Rattle.sequential_costs.proofs.WordLemmas.{kept}
use Rattle.sequential_costs.proofs.words.own_blocks.Given as goal

-- the blocks so far and those of the arrays that are left are those of all
abbrev pub invariant-loop-array : goal.invariant-loop-array
invariant-loop-array l =
    (l.blocks ≤ 2 ^ 64 - 1)
    × (kept (l.blocks + (sum_by (blocks_of l.spaces.spaces) (arrays_of (over l.spaces.spaces (drop l.array-index l.arrays)) Static Local)
    + length (arrays_of (over l.spaces.spaces (drop l.array-index l.arrays)) Temp Temp)))
    ≡ kept (sum_by (blocks_of l.spaces.spaces) (arrays_of (over l.spaces.spaces l.arrays) Static Local)
    + (length (arrays_of (over l.spaces.spaces l.arrays) Temp Temp) + 3)))
