-- A program with one fault: a bound index, bound again.
--
--     1  sial b
--     2  index i = 1, 2
--     3  do i
--     4  do i
--     5  enddo i
--     6  enddo i
--     7  endsial b
use Rattle.std.specs.Prelude.{ℕ, [], ◌∷◌, codes}
use Rattle.sial_syntax.specs.declared.index.Bound.TheVariants as bound
use Rattle.sial_syntax.specs.declared.index.Kind.TheVariants as kind
use Rattle.sial_syntax.specs.declared.index.Range.TheVariants as range
use Rattle.sial_syntax.specs.Tree.{Tree, End, Then, Do}

-- its tree
abbrev pub rebound : Tree
rebound =
    let i : ℕ = 0 in
    record {
      name = codes "b";
      indices = record { name = codes "i"; line = 2; range = range.Segments kind.Index (bound.Number 1) (bound.Number 2) } ∷ [];
      arrays = [];
      scalars = [];
      procedures = [];
      body =
          Then 3 (Do i (
          Then 4 (Do i End) End)) End;
    }
