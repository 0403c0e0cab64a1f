use Rattle.input_text.specs.Adding.{nothing, given_by, wrong, added}
use Rattle.input_text.specs.LineReading.{line_said}
use Rattle.input_text.specs.Lines.{lines_of}
use Rattle.input_text.specs.Statements.{Says}
use Rattle.input_text.proofs.InputLemmas.{inputs_read}
use Rattle.input_text.proofs.LineLemmas.{answer_found, answer_fault, answer_only, leads_again, fault_again}
use Rattle.input_text.proofs.ProperLemmas.{answer_proper}
use Rattle.input_text.proofs.reading.read_input.Goals as goal

pub returns : goal.returns
returns c =
    let lines = lines_of c.args.text.now in
    let found = answer_found Says wrong added line_said inputs_read nothing lines given_by c.read.result c.read.ensures in
    record {
      found = found;
      only = λ input h. answer_only given_by c.read.result _ _ (leads_again Says wrong added line_said inputs_read 1 nothing (given_by input) lines h) c.read.ensures;
      fault = answer_fault Says wrong added line_said inputs_read nothing lines given_by c.read.result c.read.ensures;
      only_fault = λ fault h. answer_only given_by c.read.result _ _ (fault_again Says wrong added line_said inputs_read 1 nothing lines fault h) c.read.ensures;
      proper = answer_proper c.args.text.now c.read.result found;
    }
