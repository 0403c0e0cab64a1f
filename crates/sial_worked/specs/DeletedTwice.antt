-- Worked program: an array that is deleted twice.
--
--     1  sial gone
--     2  index i = 1, 1
--     3  distributed d(i)
--     4  create d
--     5  delete d
--     6  delete d
--     7  endsial gone
--
-- Its input is empty.
use Rattle.std.specs.Prelude.{ℕ, [], ◌∷◌, codes, Some}
use Rattle.sial_syntax.specs.declared.array.ArrayKind.TheVariants as array
use Rattle.sial_syntax.specs.declared.classes.Side.TheVariants as side
use Rattle.sial_syntax.specs.declared.index.Bound.TheVariants as bound
use Rattle.sial_syntax.specs.declared.index.Kind.TheVariants as kind
use Rattle.sial_syntax.specs.declared.index.Range.TheVariants as range
use Rattle.sial_syntax.specs.Spaces.{Segments}
use Rattle.sial_syntax.specs.Tree.{Tree, End, Then, Create, Delete}
use Rattle.sial_meaning.specs.declared.trap.TrapKind.TheVariants as trap
use Rattle.sial_meaning.specs.Accepted.{Trapped}
use Rattle.sial_meaning.specs.Setting.{Setting}
use Rattle.sial_worked.specs.Runs.{Final, Run, empty, spaces_of}

-- its tree
abbrev pub deleted_twice_program : Tree
deleted_twice_program =
    let i : ℕ = 0 in
    let d : ℕ = 0 in
    record {
      name = codes "gone";
      indices = record { name = codes "i"; line = 2; range = range.Segments kind.Index (bound.Number 1) (bound.Number 1) } ∷ [];
      arrays = record { name = codes "d"; line = 3; kind = array.Distributed; dims = i ∷ [] } ∷ [];
      scalars = [];
      procedures = [];
      body =
          Then 4 (Create d) (
          Then 5 (Delete d) (
          Then 6 (Delete d) End));
    }

-- with its classes and its input
abbrev pub deleted_twice : Setting
deleted_twice = record {
  program = deleted_twice_program;
  scalars = [];
  sides = side.Unused ∷ [];
  spaces = spaces_of [] [] (Segments kind.Index 1 1 ∷ []);
  numbers = [];
  blocks = [];
}

-- where it ends
abbrev pub deleted_twice_final : Final
deleted_twice_final = record empty {
  statics = [] ∷ [];
  distributed = [] ∷ [];
  epochs = record { distributed = 3; served = 1 };
}

-- how it runs
abbrev pub DeletedTwiceRuns : Type 0
DeletedTwiceRuns = Run deleted_twice deleted_twice_final (Some (Trapped record { kind = trap.NotCreated; line = 6 }))
