-- Worked program: two arrays, one after the other.
--
--     1  sial turns
--     2  index i = 1, 8
--     3  distributed x(i)
--     4  distributed y(i)
--     5  create x
--     6  delete x
--     7  create y
--     8  delete y
--     9  endsial turns
--
-- Its input is empty.
use Rattle.std.specs.Prelude.{ℕ, [], ◌∷◌, codes, None}
use Rattle.sial_syntax.specs.declared.array.ArrayKind.TheVariants as array
use Rattle.sial_syntax.specs.declared.classes.Side.TheVariants as side
use Rattle.sial_syntax.specs.declared.index.Bound.TheVariants as bound
use Rattle.sial_syntax.specs.declared.index.Kind.TheVariants as kind
use Rattle.sial_syntax.specs.declared.index.Range.TheVariants as range
use Rattle.sial_syntax.specs.Spaces.{Segments}
use Rattle.sial_syntax.specs.Tree.{Tree, End, Then, Create, Delete}
use Rattle.sial_meaning.specs.Setting.{Setting}
use Rattle.sial_worked.specs.Runs.{Final, Run, empty, spaces_of}

-- its tree
abbrev pub turns_program : Tree
turns_program =
    let i : ℕ = 0 in
    let x : ℕ = 0 in
    let y : ℕ = 1 in
    record {
      name = codes "turns";
      indices = record { name = codes "i"; line = 2; range = range.Segments kind.Index (bound.Number 1) (bound.Number 8) } ∷ [];
      arrays =
          record { name = codes "x"; line = 3; kind = array.Distributed; dims = i ∷ [] } ∷
          record { name = codes "y"; line = 4; kind = array.Distributed; dims = i ∷ [] } ∷
          [];
      scalars = [];
      procedures = [];
      body =
          Then 5 (Create x) (
          Then 6 (Delete x) (
          Then 7 (Create y) (
          Then 8 (Delete y) End)));
    }

-- with its classes and its input
abbrev pub turns : Setting
turns = record {
  program = turns_program;
  scalars = [];
  sides = side.Unused ∷ side.Unused ∷ [];
  spaces = spaces_of [] [] (Segments kind.Index 1 8 ∷ []);
  numbers = [];
  blocks = [];
}

-- where it ends
abbrev pub turns_final : Final
turns_final = record empty {
  statics = [] ∷ [] ∷ [];
  distributed = [] ∷ [] ∷ [] ∷ [] ∷ [] ∷ [] ∷ [] ∷ [] ∷ [] ∷ [] ∷ [] ∷ [] ∷ [] ∷ [] ∷ [] ∷ [] ∷ [];
  epochs = record { distributed = 5; served = 1 };
}

-- how it runs
abbrev pub TurnsRuns : Type 0
TurnsRuns = Run turns turns_final None
