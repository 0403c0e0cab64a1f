use Rattle.std.proofs.Common.{◌≡◌, ◌+◌, ◌*◌, ◌%◌, ◌^◌, drop, sum}
use Rattle.block_math.specs.Elements.{paired, dot_of}
use Rattle.block_math.proofs.sums.dot.Given as goal

abbrev pub invariant-loop-place : goal.invariant-loop-place
invariant-loop-place l = (l.total + sum (paired (λ x y. x * y) (drop l.place l.a) (drop l.place l.b))) % 2 ^ 64 ≡ dot_of l.fn.a l.fn.b
