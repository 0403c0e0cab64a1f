use Rattle.std.proofs.Common.{◌≡◌, ◌++◌, take, drop}
use Rattle.block_math.specs.Elements.{greater}
use Rattle.block_math.proofs.pairs.greatest.Given as goal

abbrev pub invariant-loop-place : goal.invariant-loop-place
invariant-loop-place l = take l.place l.to ++ greater (drop l.place l.to) (drop l.place l.from) ≡ greater l.fn.to l.fn.from
