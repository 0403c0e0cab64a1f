use Rattle.std.proofs.Common.{◌≡◌, ◌++◌, take, drop}
use Rattle.block_math.specs.Elements.{differences}
use Rattle.block_math.proofs.pairs.subtract.Given as goal

abbrev pub invariant-loop-place : goal.invariant-loop-place
invariant-loop-place l = take l.place l.to ++ differences (drop l.place l.to) (drop l.place l.from) ≡ differences l.fn.to l.fn.from
