-- A program with one fault: a print within.
--
--     1  sial b
--     2  index i = 1, 2
--     3  pardo i
--     4  print "a"
--     5  endpardo i
--     6  endsial b
use Rattle.std.specs.Prelude.{ℕ, [], ◌∷◌, codes}
use Rattle.sial_syntax.specs.declared.index.Bound.TheVariants as bound
use Rattle.sial_syntax.specs.declared.index.Kind.TheVariants as kind
use Rattle.sial_syntax.specs.declared.index.Range.TheVariants as range
use Rattle.sial_syntax.specs.Tree.{Tree, End, Then, Pardo, Print}

-- its tree
abbrev pub print_inside : Tree
print_inside =
    let i : ℕ = 0 in
    record {
      name = codes "b";
      indices = record { name = codes "i"; line = 2; range = range.Segments kind.Index (bound.Number 1) (bound.Number 2) } ∷ [];
      arrays = [];
      scalars = [];
      procedures = [];
      body =
          Then 3 (Pardo (i ∷ []) [] (
          Then 4 (Print (codes "a")) End)) End;
    }
