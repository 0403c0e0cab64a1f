use Rattle.std.proofs.Common.{◌≡◌, ◌+◌, ◌-◌, ◌^◌, ◌<◌, min, drop}
use Rattle.index_spaces.specs.Laid.{kept_together}
use Rattle.index_spaces.proofs.laying.kept.Given as goal

-- the blocks so far and those that are left are those of all
abbrev pub invariant-loop-array : goal.invariant-loop-array
invariant-loop-array l = (min (l.total + kept_together l.kind (drop l.array-index l.blocks)) (2 ^ 32 - 1) ≡ min (kept_together l.kind l.blocks) (2 ^ 32 - 1)) × (l.total < 2 ^ 32)
