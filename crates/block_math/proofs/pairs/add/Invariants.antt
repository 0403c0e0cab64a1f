use Rattle.std.proofs.Common.{◌≡◌, ◌++◌, take, drop}
use Rattle.block_math.specs.Elements.{sums}
use Rattle.block_math.proofs.pairs.add.Given as goal

abbrev pub invariant-loop-place : goal.invariant-loop-place
invariant-loop-place l = take l.place l.to ++ sums (drop l.place l.to) (drop l.place l.from) ≡ sums l.fn.to l.fn.from
