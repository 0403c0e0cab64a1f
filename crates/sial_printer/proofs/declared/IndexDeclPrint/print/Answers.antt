use Rattle.std.proofs.Common.{◌∷◌, [], ap, sym, ◌∙◌}
use Rattle.sial_syntax.specs.Tree.{tree}
use Rattle.sial_parser.specs.declared.sign.Sign.TheVariants as sign
use Rattle.sial_parser.specs.declared.word.Symbol.TheVariants.{Key, Name}
use Rattle.sial_parser.specs.declared.word.Symbol.TheVariants as symbol
use Rattle.sial_printer.proofs.Writes.{same_text}
use Rattle.sial_printer.specs.Symbols.{bound_symbol}
use Rattle.sial_printer.specs.Lines.{ranged}
use Rattle.sial_printer.specs.Spelling.{text_of}
use Rattle.sial_printer.proofs.declared.IndexDeclPrint.print.Goals as goal

pub returns-in-Segments : goal.returns-in-Segments
returns-in-Segments g c =
    let p = tree c.args.program.now in
    let n = c.args.self.now.name in
    same_text c.line.result
    (ap (λ k. text_of ((Key k ∷ Name n ∷ symbol.Sign sign.Equals ∷ bound_symbol c.in-Segments.lo ∷ symbol.Sign sign.Comma ∷ bound_symbol c.in-Segments.hi ∷ []) ∷ [])) c.kind_key.ensures
    ∙ ap (λ r. text_of (ranged p n r ∷ [])) (sym c.in-Segments.is))
    c.line.ensures

pub returns-in-Sub : goal.returns-in-Sub
returns-in-Sub g c = same_text c.line-in-Sub.result (ap (λ r. text_of (ranged (tree c.args.program.now) c.args.self.now.name r ∷ [])) (sym c.in-Sub.is)) c.line-in-Sub.ensures
