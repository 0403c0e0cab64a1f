use Rattle.std.proofs.Common.{◌≡◌, length}
use Rattle.sequential_costs.specs.Cuttings.{AreCuttings}
use Rattle.sequential_costs.proofs.cutting.cuttings.Given as goal

abbrev pub invariant-loop-k : goal.invariant-loop-k
invariant-loop-k l = (length l.cuttings.items ≡ l.k) × AreCuttings l.spaces.spaces l.cuttings.items
