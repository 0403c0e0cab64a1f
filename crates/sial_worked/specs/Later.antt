-- Worked program: two subindices of subindices.
--
--     1  sial later
--     2  moindex i = 1, 2
--     3  subindex ii of i
--     4  subindex jj of ii
--     5  subindex kk of ii
--     6  endsial later
use Rattle.std.specs.Prelude.{◌≡◌, ℕ, [], ◌∷◌, codes, Some}
use Rattle.sial_syntax.specs.declared.index.Bound.TheVariants as bound
use Rattle.sial_syntax.specs.declared.index.Kind.TheVariants as kind
use Rattle.sial_syntax.specs.declared.index.Range.TheVariants as range
use Rattle.sial_syntax.specs.Tree.{Tree, End}
use Rattle.sial_syntax.specs.Shapes.{shape_fault}

-- its tree
abbrev pub later_program : Tree
later_program =
    let i : ℕ = 0 in
    let ii : ℕ = 1 in
    record {
      name = codes "later";
      indices =
          record { name = codes "i"; line = 2; range = range.Segments kind.Mo (bound.Number 1) (bound.Number 2) } ∷
          record { name = codes "ii"; line = 3; range = range.Sub i } ∷
          record { name = codes "jj"; line = 4; range = range.Sub ii } ∷
          record { name = codes "kk"; line = 5; range = range.Sub ii } ∷
          [];
      arrays = [];
      scalars = [];
      procedures = [];
      body = End;
    }

-- the shape rules find the first of them
abbrev pub FirstLineFirst : Type 0
FirstLineFirst = shape_fault later_program ≡ Some (record { line = 4; rule = 4 })

-- a tree of a table file, in which the second stands on an earlier line than the first
abbrev pub later_lines : Tree
later_lines = record later_program {
  indices =
      record { name = codes "i"; line = 2; range = range.Segments kind.Mo (bound.Number 1) (bound.Number 2) } ∷
      record { name = codes "ii"; line = 3; range = range.Sub 0 } ∷
      record { name = codes "jj"; line = 9; range = range.Sub 1 } ∷
      record { name = codes "kk"; line = 4; range = range.Sub 1 } ∷
      [];
}

-- the shape rules find the second
abbrev pub EarlierLineFirst : Type 0
EarlierLineFirst = shape_fault later_lines ≡ Some (record { line = 4; rule = 4 })
