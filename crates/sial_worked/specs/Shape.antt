-- Worked program: declarations alone.
--
--     1  sial shape
--     2  index i = 1, 2
--     3  index j = 1, 2
--     4  distributed a(i,j)
--     5  distributed b(i,j)
--     6  temp x(i,j)
--     7  temp y(i,j)
--     8  temp z(i,j)
--     9  endsial shape
--
-- Its input is empty.
use Rattle.std.specs.Prelude.{ℕ, [], ◌∷◌, codes, None}
use Rattle.sial_syntax.specs.declared.array.ArrayKind.TheVariants as array
use Rattle.sial_syntax.specs.declared.classes.Side.TheVariants as side
use Rattle.sial_syntax.specs.declared.index.Bound.TheVariants as bound
use Rattle.sial_syntax.specs.declared.index.Kind.TheVariants as kind
use Rattle.sial_syntax.specs.declared.index.Range.TheVariants as range
use Rattle.sial_syntax.specs.Spaces.{Segments}
use Rattle.sial_syntax.specs.Tree.{Tree, End}
use Rattle.sial_meaning.specs.Setting.{Setting}
use Rattle.sial_worked.specs.Runs.{Final, Run, empty, spaces_of}

-- its tree
abbrev pub shape_program : Tree
shape_program =
    let i : ℕ = 0 in
    let j : ℕ = 1 in
    record {
      name = codes "shape";
      indices =
          record { name = codes "i"; line = 2; range = range.Segments kind.Index (bound.Number 1) (bound.Number 2) } ∷
          record { name = codes "j"; line = 3; range = range.Segments kind.Index (bound.Number 1) (bound.Number 2) } ∷
          [];
      arrays =
          record { name = codes "a"; line = 4; kind = array.Distributed; dims = i ∷ j ∷ [] } ∷
          record { name = codes "b"; line = 5; kind = array.Distributed; dims = i ∷ j ∷ [] } ∷
          record { name = codes "x"; line = 6; kind = array.Temp; dims = i ∷ j ∷ [] } ∷
          record { name = codes "y"; line = 7; kind = array.Temp; dims = i ∷ j ∷ [] } ∷
          record { name = codes "z"; line = 8; kind = array.Temp; dims = i ∷ j ∷ [] } ∷
          [];
      scalars = [];
      procedures = [];
      body = End;
    }

-- with its classes and its input
abbrev pub shape : Setting
shape = record {
  program = shape_program;
  scalars = [];
  sides = side.Unused ∷ side.Unused ∷ side.Unused ∷ side.Unused ∷ side.Unused ∷ [];
  spaces = spaces_of [] [] (Segments kind.Index 1 2 ∷ Segments kind.Index 1 2 ∷ []);
  numbers = [];
  blocks = [];
}

-- where it ends
abbrev pub shape_final : Final
shape_final = record empty {
  statics = [] ∷ [] ∷ [] ∷ [] ∷ [] ∷ [];
  distributed = [] ∷ [] ∷ [] ∷ [] ∷ [] ∷ [] ∷ [] ∷ [] ∷ [];
}

-- how it runs
abbrev pub ShapeRuns : Type 0
ShapeRuns = Run shape shape_final None
