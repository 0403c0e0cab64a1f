use Rattle.table_compiler.proofs.ProgramLemmas.{one_more_procedure}
use Rattle.table_compiler.proofs.compiler.procedures_code.Goals as goal

pub loop-procedure-preserved : goal.loop-procedure-preserved
loop-procedure-preserved c =
    one_more_procedure c.args.entries.now c.loop-procedure.flat c.procedure_code.new.flat c.args.flat.now c.args.procedures.now c.loop-procedure.procedure-index c.procedure-item.result
    c.loop-procedure-test.true c.procedure-item.is c.in_ok-procedure_code.ensures c.loop-procedure.invariant
