use Rattle.std.proofs.Common.{◌≡◌, ◌≤◌, ◌-◌, ◌^◌, ◌+◌, drop}
use Rattle.std.specs.Prelude.{sum_by}
use Rattle.sial_meaning.specs.Costs.{arrays_of, elements_of}
use Rattle.sial_syntax.specs.declared.array.ArrayKind.TheVariants.{Distributed, Served}
use Rattle.sequential_costs.specs.Over.{over}
use Rattle.sequential_costs.proofs.WordLemmas.{kept}
use Rattle.sequential_costs.proofs.words.shared_elements.Given as goal

-- the elements so far and those of the arrays that are left are those of all
abbrev pub invariant-loop-array : goal.invariant-loop-array
invariant-loop-array l =
    (l.elements ≤ 2 ^ 64 - 1)
    × (kept (l.elements + sum_by (elements_of l.spaces.spaces) (arrays_of (over l.spaces.spaces (drop l.array-index l.arrays)) Distributed Served))
    ≡ kept (sum_by (elements_of l.spaces.spaces) (arrays_of (over l.spaces.spaces l.arrays) Distributed Served)))
