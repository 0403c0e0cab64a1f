-- A program with one fault: a scalar and a block added.
--
--     1  sial b
--     2  index i = 1, 2
--     3  static a(i)
--     4  scalar x
--     5  do i
--     6  a(i) = a(i) + x
--     7  enddo i
--     8  endsial b
use Rattle.std.specs.Prelude.{ℕ, [], ◌∷◌, codes}
use Rattle.sial_syntax.specs.declared.array.ArrayKind.TheVariants as array
use Rattle.sial_syntax.specs.declared.index.Bound.TheVariants as bound
use Rattle.sial_syntax.specs.declared.index.Kind.TheVariants as kind
use Rattle.sial_syntax.specs.declared.index.Range.TheVariants as range
use Rattle.sial_syntax.specs.declared.operand.Bin.TheVariants as bin
use Rattle.sial_syntax.specs.declared.operand.BlockRef.{BlockRef}
use Rattle.sial_syntax.specs.declared.operand.Op.TheVariants as op
use Rattle.sial_syntax.specs.declared.operand.Operand.TheVariants as operand
use Rattle.sial_syntax.specs.declared.operand.Right.TheVariants.{Two}
use Rattle.sial_syntax.specs.declared.operand.Target.TheVariants as target
use Rattle.sial_syntax.specs.Tree.{Tree, End, Then, Do, Assign}

-- its tree
abbrev pub sum_scalar : Tree
sum_scalar =
    let i : ℕ = 0 in
    let a : ℕ = 0 in
    let x : ℕ = 0 in
    let a_i : BlockRef = record { array = a; at = i ∷ [] } in
    record {
      name = codes "b";
      indices = record { name = codes "i"; line = 2; range = range.Segments kind.Index (bound.Number 1) (bound.Number 2) } ∷ [];
      arrays = record { name = codes "a"; line = 3; kind = array.Static; dims = i ∷ [] } ∷ [];
      scalars = codes "x" ∷ [];
      procedures = [];
      body =
          Then 5 (Do i (
          Then 6 (Assign (target.Block a_i) op.Set (Two (operand.Block a_i) bin.Plus (operand.Scalar x))) End)) End;
    }
