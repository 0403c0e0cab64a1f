use Rattle.std.proofs.Common.{◌≡◌, List, map, length, ap, ◌∙◌}
use Rattle.sial_syntax.specs.declared.array.ArrayDecl.{ArrayDecl}
use Rattle.sial_syntax.specs.Sides.{all_sided}
use Rattle.sial_syntax.specs.Tree.{tree}
use Rattle.scalar_discipline.specs.Deeds.{classes_of, sides_by}
use Rattle.scalar_discipline.specs.Flat.{sided_of}
use Rattle.scalar_discipline.proofs.DeedLemmas.{classes_are, array_sides_are}
use Rattle.scalar_discipline.proofs.classing.classes.Goals as goal

pub returns-clause-scalars : goal.returns-clause-scalars
returns-clause-scalars c =
    let p = tree c.args.program.now in
    let all : map sided_of c.as_slice-2.result.now ≡ all_sided p = ap (map sided_of) c.as_slice-2.ensures.value ∙ c.in_ok-all.ensures in
    c.in_ok-scalars.ensures
    ∙ (ap (λ xs. classes_of (length xs) (map sided_of c.as_slice-2.result.now)) c.as_slice.ensures.value
    ∙ (ap (classes_of (length p.scalars)) all ∙ classes_are p))

pub returns-clause-locals : goal.returns-clause-locals
returns-clause-locals c =
    let p = tree c.args.program.now in
    let all : map sided_of c.as_slice-4.result.now ≡ all_sided p = ap (map sided_of) c.as_slice-4.ensures.value ∙ c.in_ok-all.ensures in
    c.in_ok-locals.ensures
    ∙ (ap (λ (xs : List ArrayDecl). sides_by xs (map sided_of c.as_slice-4.result.now)) c.as_slice-3.ensures.value
    ∙ (ap (sides_by p.arrays) all ∙ array_sides_are p))
