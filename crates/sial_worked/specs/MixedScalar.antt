-- A program with one fault: a private scalar named outside.
--
--     1  sial b
--     2  index i = 1, 2
--     3  scalar x
--     4  pardo i
--     5  x = 1
--     6  endpardo i
--     7  execute print_scalar x
--     8  endsial b
use Rattle.std.specs.Prelude.{ℕ, [], ◌∷◌, codes}
use Rattle.sial_syntax.specs.declared.index.Bound.TheVariants as bound
use Rattle.sial_syntax.specs.declared.index.Kind.TheVariants as kind
use Rattle.sial_syntax.specs.declared.index.Range.TheVariants as range
use Rattle.sial_syntax.specs.declared.operand.Op.TheVariants as op
use Rattle.sial_syntax.specs.declared.operand.Operand.TheVariants as operand
use Rattle.sial_syntax.specs.declared.operand.Right.TheVariants.{One}
use Rattle.sial_syntax.specs.declared.operand.Target.TheVariants as target
use Rattle.sial_syntax.specs.Tree.{Tree, End, Then, Pardo, Assign, PrintScalar}

-- its tree
abbrev pub mixed_scalar : Tree
mixed_scalar =
    let i : ℕ = 0 in
    let x : ℕ = 0 in
    record {
      name = codes "b";
      indices = record { name = codes "i"; line = 2; range = range.Segments kind.Index (bound.Number 1) (bound.Number 2) } ∷ [];
      arrays = [];
      scalars = codes "x" ∷ [];
      procedures = [];
      body =
          Then 4 (Pardo (i ∷ []) [] (
          Then 5 (Assign (target.Scalar x) op.Set (One (operand.Number 1))) End)) (
          Then 7 (PrintScalar x) End);
    }
