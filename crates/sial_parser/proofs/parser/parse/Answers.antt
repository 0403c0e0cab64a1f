use Rattle.sial_parser.proofs.AnswerLemmas.{answer_found, answer_proper, answer_as, answer_refused, lexer_first}
use Rattle.sial_parser.proofs.TextLemmas.{text_read}
use Rattle.sial_parser.proofs.parser.parse.Goals as goal

pub returns : goal.returns
returns c = record {
  found = answer_found c.args.text.now c.read.result c.read.ensures;
  only = λ p h. answer_as c.args.text.now c.read.result _ (text_read c.args.text.now p h) c.read.ensures;
  proper = answer_proper c.args.text.now c.read.result c.read.ensures;
  refused = answer_refused c.args.text.now c.read.result c.read.ensures;
  lex = λ fault h. answer_as c.args.text.now c.read.result _ (lexer_first c.args.text.now fault h) c.read.ensures;
  exact = c.read.ensures;
}
