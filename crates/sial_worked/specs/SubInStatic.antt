-- A program with one fault: a subindex in a static array.
--
--     1  sial b
--     2  moindex i = 1, 2
--     3  subindex ii of i
--     4  static a(ii)
--     5  endsial b
use Rattle.std.specs.Prelude.{ℕ, [], ◌∷◌, codes}
use Rattle.sial_syntax.specs.declared.array.ArrayKind.TheVariants as array
use Rattle.sial_syntax.specs.declared.index.Bound.TheVariants as bound
use Rattle.sial_syntax.specs.declared.index.Kind.TheVariants as kind
use Rattle.sial_syntax.specs.declared.index.Range.TheVariants as range
use Rattle.sial_syntax.specs.Tree.{Tree, End}

-- its tree
abbrev pub sub_in_static : Tree
sub_in_static =
    let i : ℕ = 0 in
    let ii : ℕ = 1 in
    record {
      name = codes "b";
      indices =
          record { name = codes "i"; line = 2; range = range.Segments kind.Mo (bound.Number 1) (bound.Number 2) } ∷
          record { name = codes "ii"; line = 3; range = range.Sub i } ∷
          [];
      arrays = record { name = codes "a"; line = 4; kind = array.Static; dims = ii ∷ [] } ∷ [];
      scalars = [];
      procedures = [];
      body = End;
    }
