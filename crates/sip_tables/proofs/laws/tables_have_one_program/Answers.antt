use Rattle.sip_tables.proofs.OneProgram.{one_program}
use Rattle.sip_tables.proofs.laws.tables_have_one_program.Goals as goal

pub returns : goal.returns
returns c = record { program = one_program }
