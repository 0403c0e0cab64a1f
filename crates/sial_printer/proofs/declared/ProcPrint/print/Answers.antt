use Rattle.std.proofs.Common.{List, ◌∷◌, ◌++◌, [], ap, ◌∙◌}
use Rattle.sial_syntax.specs.Tree as syntax
use Rattle.sial_syntax.specs.Tree.{tree}
use Rattle.sial_parser.specs.declared.keyword.Keyword.TheVariants as key
use Rattle.sial_parser.specs.declared.word.Symbol.{Symbol}
use Rattle.sial_parser.specs.declared.word.Symbol.TheVariants.{Key, Name}
use Rattle.sial_printer.proofs.Writes.{first_failed, both_wrote}
use Rattle.sial_printer.proofs.SpacedLemmas.{headed}
use Rattle.sial_printer.specs.Lines.{statements}
use Rattle.sial_printer.specs.Spelling.{text_of}
use Rattle.sial_printer.proofs.declared.ProcPrint.print.Goals as goal

pub returns-in_err-line : goal.returns-in_err-line
returns-in_err-line g c =
    let q = syntax.procedure c.args.self.now in
    let name : List Symbol = Name q.name ∷ [] in
    let rest = statements (tree c.args.program.now) q.body ++ (Key key.EndProc ∷ name) ∷ [] in
    first_failed _ (text_of rest) c.from_residual.result c.in_err-line.ensures c.from_residual.ensures.0 (headed (Key key.Proc ∷ name) rest)

pub returns : goal.returns
returns g c =
    let p = tree c.args.program.now in
    let q = syntax.procedure c.args.self.now in
    let name : List Symbol = Name q.name ∷ [] in
    let last = (Key key.EndProc ∷ name) ∷ [] in
    both_wrote _ c.closed.result c.in_ok-line.ensures c.closed.ensures
    (ap (λ b. text_of ((Key key.Proc ∷ name) ∷ []) ++ text_of (statements p (syntax.block b) ++ last)) c.deref.ensures.value ∙ headed (Key key.Proc ∷ name) (statements p q.body ++ last))
