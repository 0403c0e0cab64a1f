-- A program at an edge of the rules: a partial scalar that is set outside to 0 + 0, which isn't the number 0.
--
--     1  sial b
--     2  index i = 1, 2
--     3  scalar x
--     4  x = 0 + 0
--     5  pardo i
--     6  x += 1
--     7  endpardo i
--     8  endsial b
use Rattle.std.specs.Prelude.{ℕ, [], ◌∷◌, codes}
use Rattle.sial_syntax.specs.declared.index.Bound.TheVariants as bound
use Rattle.sial_syntax.specs.declared.index.Kind.TheVariants as kind
use Rattle.sial_syntax.specs.declared.index.Range.TheVariants as range
use Rattle.sial_syntax.specs.declared.operand.Bin.TheVariants as bin
use Rattle.sial_syntax.specs.declared.operand.Op.TheVariants as op
use Rattle.sial_syntax.specs.declared.operand.Operand.TheVariants as operand
use Rattle.sial_syntax.specs.declared.operand.Right.TheVariants.{One, Two}
use Rattle.sial_syntax.specs.declared.operand.Target.TheVariants as target
use Rattle.sial_syntax.specs.Tree.{Tree, End, Then, Pardo, Assign}

-- its tree
abbrev pub zero_sum : Tree
zero_sum =
    let i : ℕ = 0 in
    let x : ℕ = 0 in
    record {
      name = codes "b";
      indices = record { name = codes "i"; line = 2; range = range.Segments kind.Index (bound.Number 1) (bound.Number 2) } ∷ [];
      arrays = [];
      scalars = codes "x" ∷ [];
      procedures = [];
      body =
          Then 4 (Assign (target.Scalar x) op.Set (Two (operand.Number 0) bin.Plus (operand.Number 0))) (
          Then 5 (Pardo (i ∷ []) [] (
          Then 6 (Assign (target.Scalar x) op.Add (One (operand.Number 1))) End)) End);
    }
