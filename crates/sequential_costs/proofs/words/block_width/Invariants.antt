use Rattle.std.proofs.Common.{◌≡◌, ◌≤◌, ◌-◌, ◌^◌, drop, fold, map, max}
use Rattle.sial_meaning.specs.Costs.{block_width}
use Rattle.sial_syntax.specs.declared.array.ArrayDecl.{ArrayDecl}
use Rattle.sial_syntax.specs.Widths.{widest_block}
use Rattle.sequential_costs.specs.Over.{over}
use Rattle.sequential_costs.proofs.WordLemmas.{kept}
use Rattle.sequential_costs.proofs.words.block_width.Given as goal

-- the widest so far and those that are left have the width of all
abbrev pub invariant-loop-array : goal.invariant-loop-array
invariant-loop-array l =
    (l.width ≤ 2 ^ 64 - 1)
    × (kept (fold max l.width (map (λ (a : ArrayDecl). widest_block l.spaces.spaces a.dims) (drop l.array-index l.arrays)))
    ≡ kept (block_width (over l.spaces.spaces l.arrays)))
