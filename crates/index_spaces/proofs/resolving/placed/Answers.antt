use Rattle.std.proofs.Common.{List, [], ◌≤◌, IsTrue, sym, subst, arith}
use Rattle.sial_syntax.specs.declared.array.ArrayDecl.{ArrayDecl}
use Rattle.sial_syntax.specs.Limits.{most_together}
use Rattle.sial_syntax.specs.Spaces.{blocks_together}
use Rattle.sial_syntax.specs.Tree.{tree}
use Rattle.index_spaces.specs.Laid.{are_few, over}
use Rattle.index_spaces.proofs.GrantedLemmas.{arrays-fit, together-fit}
use Rattle.index_spaces.proofs.resolving.placed.Goals as goal

pub with_arrays-requires-clause-few : goal.with_arrays-requires-clause-few
with_arrays-requires-clause-few c =
    subst (λ (arrays : List ArrayDecl). IsTrue (are_few c.args.spaces.spaces.spans arrays)) (sym c.as_slice.ensures.value)
    (arrays-fit c.args.spaces.spaces [] (tree c.args.program.now).arrays c.requires.arrays).1

pub with_arrays-requires-clause-together : goal.with_arrays-requires-clause-together
with_arrays-requires-clause-together c kind counted =
    subst (λ (arrays : List ArrayDecl). blocks_together (over c.args.spaces.spaces.spans) kind arrays ≤ most_together) (sym c.as_slice.ensures.value)
    (together-fit c.args.spaces.spaces kind [] (tree c.args.program.now).arrays counted c.requires.arrays (omega arith))
