use Rattle.std.proofs.Common.{◌∷◌, ◌++◌, [], map, ap, ◌∙◌}
use Rattle.std.specs.List.{flat_map}
use Rattle.sial_syntax.specs.Tree.{tree}
use Rattle.sip_files.proofs.SinkLemmas.{then_wrote, stopped}
use Rattle.sial_printer.proofs.Writes.{first_failed, both_wrote}
use Rattle.sial_printer.proofs.SpacedLemmas.{mapped_text, mapped_then}
use Rattle.sial_printer.specs.Lines.{index_line, array_line, scalar_line}
use Rattle.sial_printer.specs.Spelling.{text_of}
use Rattle.sial_printer.proofs.declared.declarations.Goals as goal

pub returns-in_err-all : goal.returns-in_err-all
returns-in_err-all g c =
    let p = tree c.args.program.now in
    let behind = map (array_line p) p.arrays ++ map scalar_line p.scalars in
    first_failed _ (text_of behind) c.from_residual.result c.in_err-all.ensures c.from_residual.ensures.0 (mapped_then (index_line p) c.deref.result.now p.indices behind c.deref.ensures.value)

pub returns-in_err-all-2 : goal.returns-in_err-all-2
returns-in_err-all-2 g c =
    let p = tree c.args.program.now in
    let last = map scalar_line p.scalars in
    both_wrote _ c.from_residual-in_err-all-2.result c.in_ok-all.ensures (stopped (text_of last) c.from_residual-in_err-all-2.result c.in_err-all-2.ensures c.from_residual-in_err-all-2.ensures.0)
    (ap (λ t. flat_map (λ x. text_of (index_line p x ∷ [])) c.deref.result.now ++ t) (mapped_then (array_line p) c.deref-2.result.now p.arrays last c.deref-2.ensures.value)
    ∙ mapped_then (index_line p) c.deref.result.now p.indices (map (array_line p) p.arrays ++ last) c.deref.ensures.value)

pub returns : goal.returns
returns g c =
    let p = tree c.args.program.now in
    let last = map scalar_line p.scalars in
    both_wrote _ c.all-3.result c.in_ok-all.ensures (then_wrote c.all-3.result c.in_ok-all-2.ensures c.all-3.ensures)
    (ap (λ t. flat_map (λ x. text_of (index_line p x ∷ [])) c.deref.result.now ++ (flat_map (λ x. text_of (array_line p x ∷ [])) c.deref-2.result.now ++ t))
    (ap (flat_map (λ x. text_of (scalar_line x ∷ []))) c.deref-3.ensures.value ∙ mapped_text scalar_line p.scalars)
    ∙ ap (λ t. flat_map (λ x. text_of (index_line p x ∷ [])) c.deref.result.now ++ t) (mapped_then (array_line p) c.deref-2.result.now p.arrays last c.deref-2.ensures.value)
    ∙ mapped_then (index_line p) c.deref.result.now p.indices (map (array_line p) p.arrays ++ last) c.deref.ensures.value)
