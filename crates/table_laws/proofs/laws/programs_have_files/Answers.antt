use Rattle.table_laws.proofs.WholeFits.{one_file, programs_have_files}
use Rattle.table_laws.proofs.laws.programs_have_files.Goals as goal

pub returns : goal.returns
returns c = record { file = programs_have_files; one = one_file }
