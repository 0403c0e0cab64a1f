use Rattle.table_verify.proofs.nesting.nesting_fault.Goals as goal
use Rattle.table_verify.proofs.NestingFaults.{fault_from, none_from}

pub returns-clause-fault : goal.returns-clause-fault
returns-clause-fault c = fault_from c.args.tables.now c.code.result.now c.procedures_len.result c.broken.result c.code.ensures c.procedures_len.ensures c.broken.ensures.exact

pub returns-clause-none : goal.returns-clause-none
returns-clause-none c = none_from c.args.tables.now c.code.result.now c.procedures_len.result c.broken.result c.code.ensures c.procedures_len.ensures c.broken.ensures.exact
