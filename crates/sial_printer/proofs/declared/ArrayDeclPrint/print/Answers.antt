use Rattle.std.proofs.Common.{◌∷◌, [], ap, ◌∙◌}
use Rattle.sial_syntax.specs.Tree.{tree}
use Rattle.sial_parser.specs.declared.word.Symbol.TheVariants.{Key, Name}
use Rattle.sial_printer.proofs.Writes.{same_text}
use Rattle.sial_printer.specs.Symbols.{array_key, dims}
use Rattle.sial_printer.specs.Spelling.{text_of}
use Rattle.sial_printer.proofs.declared.ArrayDeclPrint.print.Goals as goal

pub returns : goal.returns
returns g c =
    let p = tree c.args.program.now in
    let n = c.args.self.now.name in
    same_text c.line.result
    (ap (λ k. text_of ((Key k ∷ Name n ∷ dims p c.as_slice.result.now []) ∷ [])) c.array_key.ensures
    ∙ ap (λ is. text_of ((Key (array_key c.args.self.now.kind) ∷ Name n ∷ dims p is []) ∷ [])) c.as_slice.ensures)
    c.line.ensures
