-- A program with one fault: a block with too few indices.
--
--     1  sial b
--     2  index i = 1, 2
--     3  static a(i,i)
--     4  do i
--     5  a(i) = 1
--     6  enddo i
--     7  endsial b
use Rattle.std.specs.Prelude.{ℕ, [], ◌∷◌, codes}
use Rattle.sial_syntax.specs.declared.array.ArrayKind.TheVariants as array
use Rattle.sial_syntax.specs.declared.index.Bound.TheVariants as bound
use Rattle.sial_syntax.specs.declared.index.Kind.TheVariants as kind
use Rattle.sial_syntax.specs.declared.index.Range.TheVariants as range
use Rattle.sial_syntax.specs.declared.operand.BlockRef.{BlockRef}
use Rattle.sial_syntax.specs.declared.operand.Op.TheVariants as op
use Rattle.sial_syntax.specs.declared.operand.Operand.TheVariants as operand
use Rattle.sial_syntax.specs.declared.operand.Right.TheVariants.{One}
use Rattle.sial_syntax.specs.declared.operand.Target.TheVariants as target
use Rattle.sial_syntax.specs.Tree.{Tree, End, Then, Do, Assign}

-- its tree
abbrev pub wrong_rank : Tree
wrong_rank =
    let i : ℕ = 0 in
    let a : ℕ = 0 in
    let a_i : BlockRef = record { array = a; at = i ∷ [] } in
    record {
      name = codes "b";
      indices = record { name = codes "i"; line = 2; range = range.Segments kind.Index (bound.Number 1) (bound.Number 2) } ∷ [];
      arrays = record { name = codes "a"; line = 3; kind = array.Static; dims = i ∷ i ∷ [] } ∷ [];
      scalars = [];
      procedures = [];
      body =
          Then 4 (Do i (
          Then 5 (Assign (target.Block a_i) op.Set (One (operand.Number 1))) End)) End;
    }
