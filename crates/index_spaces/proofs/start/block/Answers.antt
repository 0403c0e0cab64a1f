use Rattle.std.proofs.Common.{◌≡◌, List, ℕ, sym, ap, ◌∙◌, subst}
use Rattle.std.specs.Prelude.{unwrap_or}
use Rattle.sial_syntax.specs.declared.array.ArrayDecl.{ArrayDecl}
use Rattle.sial_syntax.specs.BoxLaws.{AreSegments}
use Rattle.sial_syntax.specs.Tree.{tree}
use Rattle.index_spaces.specs.Given.{array_named, names_of, place_from}
use Rattle.index_spaces.specs.Placed.{array_among}
use Rattle.index_spaces.proofs.GrantedLemmas.{block-known}
use Rattle.index_spaces.proofs.start.block.Goals as goal

pub block_number-number-requires-clause-within : goal.block_number-number-requires-clause-within
block_number-number-requires-clause-within c =
    let named : c.unwrap_or-array.result ≡ unwrap_or (array_named (tree c.args.program.now) c.args.line.now.name) 0 =
    c.unwrap_or-array.ensures
    ∙ (ap (λ found. unwrap_or found 0) (c.array_place-place.ensures
    ∙ (ap (λ (arrays : List ArrayDecl). place_from 0 (names_of arrays) c.as_slice-2.result.now) c.as_slice.ensures.value
    ∙ ap (array_named (tree c.args.program.now)) c.as_slice-2.ensures))) in
    let known = block-known (tree c.args.program.now) c.args.spaces.now.spaces c.args.line.now c.args.spaces.now.arrays c.unwrap_or-array.result c.requires.fits c.requires.arrays named in
    subst (λ (numbers : List ℕ). AreSegments c.args.spaces.now.spaces (array_among c.args.spaces.now.arrays c.unwrap_or-array.result).dims numbers) (sym c.as_slice-3.ensures.value) known.2
