-- A program with one fault: a scalar in a where.
--
--     1  sial b
--     2  index i = 1, 2
--     3  scalar x
--     4  pardo i
--     5  where i < x
--     6  endpardo i
--     7  endsial b
use Rattle.std.specs.Prelude.{ℕ, [], ◌∷◌, codes}
use Rattle.sial_syntax.specs.declared.condition.Cond.{Cond}
use Rattle.sial_syntax.specs.declared.condition.Test.TheVariants as test
use Rattle.sial_syntax.specs.declared.condition.Value.TheVariants as value
use Rattle.sial_syntax.specs.declared.index.Bound.TheVariants as bound
use Rattle.sial_syntax.specs.declared.index.Kind.TheVariants as kind
use Rattle.sial_syntax.specs.declared.index.Range.TheVariants as range
use Rattle.sial_syntax.specs.Tree.{Tree, End, Then, Pardo}

-- its tree
abbrev pub scalar_where : Tree
scalar_where =
    let i : ℕ = 0 in
    let x : ℕ = 0 in
    let where_5 : Cond = record { left = value.Index i; test = test.Less; right = value.Scalar x } in
    record {
      name = codes "b";
      indices = record { name = codes "i"; line = 2; range = range.Segments kind.Index (bound.Number 1) (bound.Number 2) } ∷ [];
      arrays = [];
      scalars = codes "x" ∷ [];
      procedures = [];
      body = Then 4 (Pardo (i ∷ []) (where_5 ∷ []) End) End;
    }
