use Rattle.std.proofs.Common.{arith}
use Rattle.scalar_discipline.proofs.HandLemmas.{given_one}
use Rattle.scalar_discipline.proofs.handing.give.Goals as goal

pub returns-then-procedure-len : goal.returns-then-procedure-len
returns-then-procedure-len c =
    given_one c.args.given.now.items c.args.procedure c.index.result.now c.or.result c.args.sides
    (omega (arith, c.len.ensures, c.if-procedure-len.true, c.args.given.now.ok.0)) c.index.ensures c.or.ensures
