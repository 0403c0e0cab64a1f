use Rattle.std.proofs.Common.{◌∷◌, [], ap, sym}
use Rattle.sial_syntax.specs.Tree.{tree}
use Rattle.sial_parser.specs.declared.word.Symbol.TheVariants.{Key}
use Rattle.sial_printer.proofs.Writes.{same_text}
use Rattle.sial_printer.specs.Symbols.{block, access_symbols}
use Rattle.sial_printer.specs.Spelling.{text_of}
use Rattle.sial_printer.proofs.simple.write.Goals as goal

pub returns-in-Store : goal.returns-in-Store
returns-in-Store g c =
    let p = tree c.args.program.now in
    same_text c.line.result (ap (λ h. text_of ((Key c.args.key ∷ block p c.args.into.now (access_symbols h (block p c.args.from.now []))) ∷ [])) (sym c.in-Store.is)) c.line.ensures

pub returns-in-Add : goal.returns-in-Add
returns-in-Add g c =
    let p = tree c.args.program.now in
    same_text c.line-in-Add.result (ap (λ h. text_of ((Key c.args.key ∷ block p c.args.into.now (access_symbols h (block p c.args.from.now []))) ∷ [])) (sym c.in-Add.is)) c.line-in-Add.ensures

pub returns-in-Max : goal.returns-in-Max
returns-in-Max g c =
    let p = tree c.args.program.now in
    same_text c.line-in-Max.result (ap (λ h. text_of ((Key c.args.key ∷ block p c.args.into.now (access_symbols h (block p c.args.from.now []))) ∷ [])) (sym c.in-Max.is)) c.line-in-Max.ensures

pub returns-in-Read : goal.returns-in-Read
returns-in-Read g c =
    let p = tree c.args.program.now in
    same_text c.line-in-Read.result (ap (λ h. text_of ((Key c.args.key ∷ block p c.args.into.now (access_symbols h (block p c.args.from.now []))) ∷ [])) (sym c.in-Read.is)) c.line-in-Read.ensures
