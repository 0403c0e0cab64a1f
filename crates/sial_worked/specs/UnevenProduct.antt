-- A program at an edge of the rules: a scalar from two blocks with other indices.
--
--     1  sial b
--     2  index i = 1, 2
--     3  index j = 1, 2
--     4  static a(i)
--     5  scalar x
--     6  do i
--     7  do j
--     8  x = a(i) * a(j)
--     9  enddo j
--    10  enddo i
--    11  endsial b
use Rattle.std.specs.Prelude.{ℕ, [], ◌∷◌, codes}
use Rattle.sial_syntax.specs.declared.array.ArrayKind.TheVariants as array
use Rattle.sial_syntax.specs.declared.index.Bound.TheVariants as bound
use Rattle.sial_syntax.specs.declared.index.Kind.TheVariants as kind
use Rattle.sial_syntax.specs.declared.index.Range.TheVariants as range
use Rattle.sial_syntax.specs.declared.operand.Bin.TheVariants as bin
use Rattle.sial_syntax.specs.declared.operand.BlockRef.{BlockRef}
use Rattle.sial_syntax.specs.declared.operand.Op.TheVariants as op
use Rattle.sial_syntax.specs.declared.operand.Operand.TheVariants as operand
use Rattle.sial_syntax.specs.declared.operand.Right.TheVariants.{Two}
use Rattle.sial_syntax.specs.declared.operand.Target.TheVariants as target
use Rattle.sial_syntax.specs.Tree.{Tree, End, Then, Do, Assign}

-- its tree
abbrev pub uneven_product : Tree
uneven_product =
    let i : ℕ = 0 in
    let j : ℕ = 1 in
    let a : ℕ = 0 in
    let x : ℕ = 0 in
    let a_i : BlockRef = record { array = a; at = i ∷ [] } in
    let a_j : BlockRef = record { array = a; at = j ∷ [] } in
    record {
      name = codes "b";
      indices =
          record { name = codes "i"; line = 2; range = range.Segments kind.Index (bound.Number 1) (bound.Number 2) } ∷
          record { name = codes "j"; line = 3; range = range.Segments kind.Index (bound.Number 1) (bound.Number 2) } ∷
          [];
      arrays = record { name = codes "a"; line = 4; kind = array.Static; dims = i ∷ [] } ∷ [];
      scalars = codes "x" ∷ [];
      procedures = [];
      body =
          Then 6 (Do i (
          Then 7 (Do j (
          Then 8 (Assign (target.Scalar x) op.Set (Two (operand.Block a_i) bin.Times (operand.Block a_j))) End)) End)) End;
    }
