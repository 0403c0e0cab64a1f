-- A program at an edge of the rules: a partial scalar that is read in a procedure that nobody calls.
--
--     1  sial b
--     2  index i = 1, 2
--     3  scalar x
--     4  proc p
--     5  if x > 0
--     6  endif
--     7  endproc p
--     8  pardo i
--     9  x += 1
--    10  endpardo i
--    11  endsial b
use Rattle.std.specs.Prelude.{ℕ, [], ◌∷◌, codes}
use Rattle.sial_syntax.specs.declared.condition.Test.TheVariants as test
use Rattle.sial_syntax.specs.declared.condition.Value.TheVariants as value
use Rattle.sial_syntax.specs.declared.index.Bound.TheVariants as bound
use Rattle.sial_syntax.specs.declared.index.Kind.TheVariants as kind
use Rattle.sial_syntax.specs.declared.index.Range.TheVariants as range
use Rattle.sial_syntax.specs.declared.operand.Op.TheVariants as op
use Rattle.sial_syntax.specs.declared.operand.Operand.TheVariants as operand
use Rattle.sial_syntax.specs.declared.operand.Right.TheVariants.{One}
use Rattle.sial_syntax.specs.declared.operand.Target.TheVariants as target
use Rattle.sial_syntax.specs.Tree.{Tree, End, Then, Pardo, If, Assign}

-- its tree
abbrev pub uncalled_read : Tree
uncalled_read =
    let i : ℕ = 0 in
    let x : ℕ = 0 in
    record {
      name = codes "b";
      indices = record { name = codes "i"; line = 2; range = range.Segments kind.Index (bound.Number 1) (bound.Number 2) } ∷ [];
      arrays = [];
      scalars = codes "x" ∷ [];
      procedures =
          record {
            name = codes "p";
            body =
                Then 5 (If (record { left = value.Scalar x; test = test.Greater; right = value.Number 0 }) End) End;
          } ∷
          [];
      body =
          Then 8 (Pardo (i ∷ []) [] (
          Then 9 (Assign (target.Scalar x) op.Add (One (operand.Number 1))) End)) End;
    }
