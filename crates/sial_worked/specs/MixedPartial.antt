-- A program with one fault: a partial scalar set outside to another number than 0.
--
--     1  sial b
--     2  index i = 1, 2
--     3  scalar x
--     4  x = 0
--     5  x = 1
--     6  pardo i
--     7  x += 1
--     8  endpardo i
--     9  endsial b
use Rattle.std.specs.Prelude.{ℕ, [], ◌∷◌, codes}
use Rattle.sial_syntax.specs.declared.index.Bound.TheVariants as bound
use Rattle.sial_syntax.specs.declared.index.Kind.TheVariants as kind
use Rattle.sial_syntax.specs.declared.index.Range.TheVariants as range
use Rattle.sial_syntax.specs.declared.operand.Op.TheVariants as op
use Rattle.sial_syntax.specs.declared.operand.Operand.TheVariants as operand
use Rattle.sial_syntax.specs.declared.operand.Right.TheVariants.{One}
use Rattle.sial_syntax.specs.declared.operand.Target.TheVariants as target
use Rattle.sial_syntax.specs.Tree.{Tree, End, Then, Pardo, Assign}

-- its tree
abbrev pub mixed_partial : Tree
mixed_partial =
    let i : ℕ = 0 in
    let x : ℕ = 0 in
    record {
      name = codes "b";
      indices = record { name = codes "i"; line = 2; range = range.Segments kind.Index (bound.Number 1) (bound.Number 2) } ∷ [];
      arrays = [];
      scalars = codes "x" ∷ [];
      procedures = [];
      body =
          Then 4 (Assign (target.Scalar x) op.Set (One (operand.Number 0))) (
          Then 5 (Assign (target.Scalar x) op.Set (One (operand.Number 1))) (
          Then 6 (Pardo (i ∷ []) [] (
          Then 7 (Assign (target.Scalar x) op.Add (One (operand.Number 1))) End)) End));
    }
