use Rattle.std.proofs.Common.{List, map, None, length, replicate, ap, ◌∙◌}
use Rattle.sial_syntax.specs.declared.array.ArrayDecl.{ArrayDecl}
use Rattle.sial_syntax.specs.Tree.{tree}
use Rattle.scalar_discipline.specs.Deeds.{named_outside, named_within}
use Rattle.scalar_discipline.specs.Discipline.{seen}
use Rattle.scalar_discipline.specs.Flat.{sided_of}
use Rattle.scalar_discipline.specs.Judging.{first_told}
use Rattle.scalar_discipline.specs.Mixing.{first_mixed, lines_of}
use Rattle.scalar_discipline.proofs.ClassifyLemmas.{found-first}
use Rattle.scalar_discipline.proofs.classing.first_fault.Goals as goal

pub returns : goal.returns
returns c =
    let p = tree c.args.program.now in
    let all = map sided_of c.in_ok-all.all.items in
    found-first p c.args.depths.now c.args.classes.now all c.as_slice-4.result.now c.as_slice-5.result.now (seen c.first_told-first.result) (seen c.first_mixed.result)
    c.in_ok-all.ensures c.requires.classes c.requires.depths
    (c.first_told-first.ensures ∙ ap (λ xs. first_told p c.args.classes.now c.args.depths.now (map sided_of xs) None) c.as_slice.ensures.value)
    (c.as_slice-4.ensures.value
    ∙ (c.in_ok-outer.ensures
    ∙ (ap (λ xs. lines_of named_outside (map sided_of xs) (replicate (length c.as_slice-arrays.result.now) None)) c.as_slice-2.ensures.value
    ∙ ap (λ (xs : List ArrayDecl). lines_of named_outside all (replicate (length xs) None)) c.as_slice-arrays.ensures.value)))
    (c.as_slice-5.ensures.value
    ∙ (c.in_ok-inner.ensures
    ∙ (ap (λ xs. lines_of named_within (map sided_of xs) (replicate (length c.as_slice-arrays.result.now) None)) c.as_slice-3.ensures.value
    ∙ ap (λ (xs : List ArrayDecl). lines_of named_within all (replicate (length xs) None)) c.as_slice-arrays.ensures.value)))
    (c.first_mixed.ensures ∙ ap (λ (xs : List ArrayDecl). first_mixed c.as_slice-4.result.now c.as_slice-5.result.now 0 xs (seen c.first_told-first.result)) c.as_slice-arrays.ensures.value)
