use Rattle.sial_lexer.proofs.WholeLemmas.{tokens_read, fault_read, answer_found, answer_fault, answer_only, answer_order, answer_spelled}
use Rattle.sial_lexer.proofs.lexer.lex.Goals as goal

pub returns : goal.returns
returns c = record {
  found = answer_found c.args.text.now c.read.result c.read.ensures.exact;
  only = λ tokens h. answer_only c.args.text.now c.read.result _ (tokens_read c.args.text.now tokens h) c.read.ensures.exact;
  fault = answer_fault c.args.text.now c.read.result c.read.ensures.exact;
  only_fault = λ fault h. answer_only c.args.text.now c.read.result _ (fault_read c.args.text.now fault h) c.read.ensures.exact;
  in_order = answer_order c.args.text.now c.read.result c.read.ensures.exact;
  spelled = answer_spelled c.args.text.now c.read.result c.read.ensures.exact;
  exact = c.read.ensures.exact;
}
