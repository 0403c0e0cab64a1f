-- The first index outside, of blocks one after another.
use Rattle.std.proofs.Common.{◌≡◌, List, [], ◌∷◌, ◌++◌, Option, Some, None, refl, sym, ap, ◌∙◌}
use Rattle.sial_syntax.specs.declared.operand.BlockRef.{BlockRef}
use Rattle.sial_syntax.specs.Agreeing.{array_in}
use Rattle.sial_syntax.specs.Spaces.{Spaces}
use Rattle.sial_syntax.specs.Tree.{Tree}
use Rattle.index_spaces.specs.Refusing.{or_else, first_outside, blocks_outside}

-- the first of three doesn't depend on which two are looked at first
or-three : {X : Type 0} (a b c : Option X) → or_else (or_else a b) c ≡ or_else a (or_else b c)
or-three None b c = refl
or-three (Some a) b c = refl

-- the first of two lists
pub outside_append : (p : Tree) (spaces : Spaces) (xs ys : List BlockRef) → blocks_outside p spaces (xs ++ ys) ≡ or_else (blocks_outside p spaces xs) (blocks_outside p spaces ys)
outside_append p spaces [] ys = refl
outside_append p spaces (b ∷ bs) ys =
    ap (or_else (first_outside spaces b.at (array_in p b.array).dims)) (outside_append p spaces bs ys)
    ∙ sym (or-three (first_outside spaces b.at (array_in p b.array).dims) (blocks_outside p spaces bs) (blocks_outside p spaces ys))
