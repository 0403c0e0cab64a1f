use Rattle.std.proofs.Common.{◌∷◌, [], ap}
use Rattle.sial_syntax.specs.Tree.{tree}
use Rattle.sial_parser.specs.declared.keyword.Keyword.TheVariants as key
use Rattle.sial_parser.specs.declared.word.Symbol.TheVariants.{Key}
use Rattle.sial_printer.proofs.Writes.{same_text}
use Rattle.sial_printer.specs.Parts.{all_symbols}
use Rattle.sial_printer.specs.Spelling.{text_of}
use Rattle.sial_printer.proofs.line.CondPrint.print.Goals as goal

pub returns : goal.returns
returns g c = same_text c.line.result (ap (λ xs. text_of ((Key key.Where ∷ all_symbols (tree c.args.program.now) xs) ∷ [])) c.cond_parts.ensures) c.line.ensures
