-- A program at an edge of the rules: a block with too few indices, the first of them of another kind.
--
--     1  sial b
--     2  index i = 1, 2
--     3  moindex j = 1, 2
--     4  static a(i,i)
--     5  do j
--     6  a(j) = 1
--     7  enddo j
--     8  endsial b
use Rattle.std.specs.Prelude.{ℕ, [], ◌∷◌, codes}
use Rattle.sial_syntax.specs.declared.array.ArrayKind.TheVariants as array
use Rattle.sial_syntax.specs.declared.index.Bound.TheVariants as bound
use Rattle.sial_syntax.specs.declared.index.Kind.TheVariants as kind
use Rattle.sial_syntax.specs.declared.index.Range.TheVariants as range
use Rattle.sial_syntax.specs.declared.operand.BlockRef.{BlockRef}
use Rattle.sial_syntax.specs.declared.operand.Op.TheVariants as op
use Rattle.sial_syntax.specs.declared.operand.Operand.TheVariants as operand
use Rattle.sial_syntax.specs.declared.operand.Right.TheVariants.{One}
use Rattle.sial_syntax.specs.declared.operand.Target.TheVariants as target
use Rattle.sial_syntax.specs.Tree.{Tree, End, Then, Do, Assign}

-- its tree
abbrev pub short_block : Tree
short_block =
    let i : ℕ = 0 in
    let j : ℕ = 1 in
    let a : ℕ = 0 in
    let a_j : BlockRef = record { array = a; at = j ∷ [] } in
    record {
      name = codes "b";
      indices =
          record { name = codes "i"; line = 2; range = range.Segments kind.Index (bound.Number 1) (bound.Number 2) } ∷
          record { name = codes "j"; line = 3; range = range.Segments kind.Mo (bound.Number 1) (bound.Number 2) } ∷
          [];
      arrays = record { name = codes "a"; line = 4; kind = array.Static; dims = i ∷ i ∷ [] } ∷ [];
      scalars = [];
      procedures = [];
      body =
          Then 5 (Do j (
          Then 6 (Assign (target.Block a_j) op.Set (One (operand.Number 1))) End)) End;
    }
