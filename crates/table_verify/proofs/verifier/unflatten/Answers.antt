use Rattle.table_verify.proofs.Passed.{ok_proper}
use Rattle.table_verify.proofs.verifier.unflatten.Goals as goal

pub returns-in-Ok-clause-proper : goal.returns-in-Ok-clause-proper
returns-in-Ok-clause-proper c = ok_proper c.args.tables.now c.in-Ok.program c.in-Ok.ensures.exact c.in-Ok.ensures.numbers
