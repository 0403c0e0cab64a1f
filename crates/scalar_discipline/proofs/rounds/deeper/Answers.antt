use Rattle.std.proofs.Common.{arith}
use Rattle.scalar_discipline.proofs.DepthRoundLemmas.{deepest-low}
use Rattle.scalar_discipline.proofs.rounds.deeper.Goals as goal

pub overflow_add-deepest : goal.overflow_add-deepest
overflow_add-deepest c = omega (arith, c.deepest.ensures, deepest-low 65536 c.args.depths.now c.as_slice.result.now (omega arith) c.requires.low)
