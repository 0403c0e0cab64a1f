use Rattle.std.proofs.Common.{◌∷◌, ◌++◌, [], ◌∙◌, ap, subst, arith}
use Rattle.table_file.specs.Fields.{Gives}
use Rattle.table_file.proofs.Loops.{texts_behind}
use Rattle.table_file.proofs.reading.some_texts.Goals as goal

pub returns : goal.returns
returns c =
    subst (λ r. Gives (λ x. (x.0.items, x.1)) c.entries.result r) (texts_behind c.args.count c.args.bytes.now c.args.at c.in_ok-name.name c.in_ok-name.next c.push.new.self.items (omega (arith, c.if-count-eq0.false)) c.in_ok-name.ensures (c.in_ok-push.ensures.items ∙ ap (λ xs. xs ++ c.in_ok-name.name ∷ []) c.new-front.ensures.items)) c.entries.ensures
