use Rattle.std.proofs.Common.{◌≡◌, ◌+◌, ◌-◌, ◌^◌, ◌<◌, min, drop}
use Rattle.sial_syntax.specs.Spaces.{blocks_together}
use Rattle.index_spaces.proofs.arrays.before_together.Given as goal

-- the blocks so far and those of the arrays that are left are those of all
abbrev pub invariant-loop-array : goal.invariant-loop-array
invariant-loop-array l = record {
  total : min (l.total + blocks_together l.spaces.spaces l.kind (drop l.array-index l.arrays)) (2 ^ 64 - 1) ≡ min (blocks_together l.spaces.spaces l.kind l.arrays) (2 ^ 64 - 1);
  kept : l.total < 2 ^ 64;
}
