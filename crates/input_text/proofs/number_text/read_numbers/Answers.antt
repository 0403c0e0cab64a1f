use Rattle.std.proofs.Common.{ℕ, []}
use Rattle.std.specs.Global.{Vec}
use Rattle.input_text.specs.LineReading.{line_figures}
use Rattle.input_text.specs.Lines.{lines_of}
use Rattle.input_text.specs.Texts.{SaysNumbers, wrong_numbers, with_numbers}
use Rattle.input_text.proofs.LineLemmas.{answer_found, answer_fault, answer_only, leads_again, fault_again}
use Rattle.input_text.proofs.NumbersLemmas.{numbers_read}
use Rattle.input_text.proofs.number_text.read_numbers.Goals as goal

pub returns : goal.returns
returns c =
    let lines = lines_of c.args.text.now in
    let wrong = wrong_numbers c.args.most in
    let read = numbers_read c.args.most in
    record {
      found = answer_found SaysNumbers wrong with_numbers line_figures read [] lines (λ (v : Vec ℕ). v.items) c.numbers_of.result c.numbers_of.ensures;
      only = λ numbers h. answer_only (λ (v : Vec ℕ). v.items) c.numbers_of.result _ _ (leads_again SaysNumbers wrong with_numbers line_figures read 1 [] numbers lines h) c.numbers_of.ensures;
      fault = answer_fault SaysNumbers wrong with_numbers line_figures read [] lines (λ (v : Vec ℕ). v.items) c.numbers_of.result c.numbers_of.ensures;
      only_fault = λ fault h. answer_only (λ (v : Vec ℕ). v.items) c.numbers_of.result _ _ (fault_again SaysNumbers wrong with_numbers line_figures read 1 [] lines fault h) c.numbers_of.ensures;
    }
