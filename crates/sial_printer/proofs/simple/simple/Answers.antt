use Rattle.std.proofs.Common.{◌∷◌, [], ap, sym, ◌∙◌}
use Rattle.sial_syntax.specs.Tree.{tree, plain_form}
use Rattle.sial_parser.specs.declared.keyword.Keyword.TheVariants as key
use Rattle.sial_parser.specs.declared.word.Symbol.TheVariants.{Key, Name}
use Rattle.sial_printer.proofs.Writes.{same_text}
use Rattle.sial_printer.proofs.SeenLemmas.{seen_get, seen_request, seen_put, seen_prepare, seen_allocate}
use Rattle.sial_printer.specs.Symbols.{array_name, slots}
use Rattle.sial_printer.specs.Lines.{statement}
use Rattle.sial_printer.specs.Spelling.{text_of}
use Rattle.sial_printer.proofs.simple.simple.Goals as goal

pub returns-in-Get : goal.returns-in-Get
returns-in-Get g c = same_text c.line-in-Get.result (sym (ap (λ f. text_of (statement (tree c.args.program.now) f)) (ap plain_form c.in-Get.is ∙ seen_get c.in-Get.block))) c.line-in-Get.ensures

pub returns-in-Request : goal.returns-in-Request
returns-in-Request g c = same_text c.line-in-Request.result (sym (ap (λ f. text_of (statement (tree c.args.program.now) f)) (ap plain_form c.in-Request.is ∙ seen_request c.in-Request.block))) c.line-in-Request.ensures

pub returns-in-Put : goal.returns-in-Put
returns-in-Put g c = same_text c.write.result (sym (ap (λ f. text_of (statement (tree c.args.program.now) f)) (ap plain_form c.in-Put.is ∙ seen_put c.in-Put.block c.in-Put.how c.in-Put.from))) c.write.ensures

pub returns-in-Prepare : goal.returns-in-Prepare
returns-in-Prepare g c = same_text c.write-in-Prepare.result (sym (ap (λ f. text_of (statement (tree c.args.program.now) f)) (ap plain_form c.in-Prepare.is ∙ seen_prepare c.in-Prepare.block c.in-Prepare.how c.in-Prepare.from))) c.write-in-Prepare.ensures

pub returns-in-Allocate : goal.returns-in-Allocate
returns-in-Allocate g c =
    let p = tree c.args.program.now in
    same_text c.line-in-Allocate.result
    (ap (λ xs. text_of ((Key key.Allocate ∷ Name (array_name p c.in-Allocate.array) ∷ slots p xs []) ∷ [])) c.deref.ensures.value
    ∙ sym (ap (λ f. text_of (statement p f)) (ap plain_form c.in-Allocate.is ∙ seen_allocate c.in-Allocate.array c.in-Allocate.at)))
    c.line-in-Allocate.ensures
