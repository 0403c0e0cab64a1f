use Rattle.std.proofs.Common.{◌≡◌, ◌++◌, take, drop}
use Rattle.block_math.specs.Elements.{scaled}
use Rattle.block_math.proofs.uniform.scale.Given as goal

abbrev pub invariant-loop-number : goal.invariant-loop-number
invariant-loop-number l = take l.number-index l.to ++ scaled l.factor (drop l.number-index l.to) ≡ scaled l.factor l.fn.to
