-- Worked program: an array that is created twice.
--
--     1  sial twice
--     2  index i = 1, 1
--     3  temp t(i)
--     4  distributed d(i)
--     5  create d
--     6  create d
--     7  endsial twice
--
-- Its input is empty.
use Rattle.std.specs.Prelude.{ℕ, [], ◌∷◌, codes, Some}
use Rattle.sial_syntax.specs.declared.array.ArrayKind.TheVariants as array
use Rattle.sial_syntax.specs.declared.classes.Side.TheVariants as side
use Rattle.sial_syntax.specs.declared.index.Bound.TheVariants as bound
use Rattle.sial_syntax.specs.declared.index.Kind.TheVariants as kind
use Rattle.sial_syntax.specs.declared.index.Range.TheVariants as range
use Rattle.sial_syntax.specs.Spaces.{Segments}
use Rattle.sial_syntax.specs.Tree.{Tree, End, Then, Create}
use Rattle.sial_meaning.specs.declared.trap.TrapKind.TheVariants as trap
use Rattle.sial_meaning.specs.Accepted.{Trapped}
use Rattle.sial_meaning.specs.Setting.{Setting}
use Rattle.sial_worked.specs.Runs.{Final, Run, empty, spaces_of}

-- its tree
abbrev pub twice_program : Tree
twice_program =
    let i : ℕ = 0 in
    let d : ℕ = 1 in
    record {
      name = codes "twice";
      indices = record { name = codes "i"; line = 2; range = range.Segments kind.Index (bound.Number 1) (bound.Number 1) } ∷ [];
      arrays =
          record { name = codes "t"; line = 3; kind = array.Temp; dims = i ∷ [] } ∷
          record { name = codes "d"; line = 4; kind = array.Distributed; dims = i ∷ [] } ∷
          [];
      scalars = [];
      procedures = [];
      body =
          Then 5 (Create d) (
          Then 6 (Create d) End);
    }

-- with its classes and its input
abbrev pub twice : Setting
twice = record {
  program = twice_program;
  scalars = [];
  sides = side.Unused ∷ side.Unused ∷ [];
  spaces = spaces_of [] [] (Segments kind.Index 1 1 ∷ []);
  numbers = [];
  blocks = [];
}

-- where it ends
abbrev pub twice_final : Final
twice_final = record empty {
  statics = [] ∷ [] ∷ [];
  distributed = (0 ∷ []) ∷ [];
  epochs = record { distributed = 2; served = 1 };
}

-- how it runs
abbrev pub TwiceRuns : Type 0
TwiceRuns = Run twice twice_final (Some (Trapped record { kind = trap.AlreadyCreated; line = 6 }))
