-- Worked program: a pardo with nothing inside, of sixteen, three or no iterations.
--
--     1  sial chunks
--     2  index i = 1, 16
--     3  pardo i
--     4  endpardo i
--     5  endsial chunks
--
-- Its input is empty.
use Rattle.std.specs.Prelude.{ℕ, [], ◌∷◌, codes, None}
use Rattle.sial_syntax.specs.declared.index.Bound.TheVariants as bound
use Rattle.sial_syntax.specs.declared.index.Kind.TheVariants as kind
use Rattle.sial_syntax.specs.declared.index.Range.TheVariants as range
use Rattle.sial_syntax.specs.Spaces.{Segments}
use Rattle.sial_syntax.specs.Tree.{Tree, End, Then, Pardo}
use Rattle.sial_meaning.specs.Setting.{Setting}
use Rattle.sial_worked.specs.Runs.{Final, Run, empty, spaces_of}

-- its tree, with this number in line 2
abbrev pub chunks_program : (last : ℕ) → Tree
chunks_program last =
    let i : ℕ = 0 in
    record {
      name = codes "chunks";
      indices = record { name = codes "i"; line = 2; range = range.Segments kind.Index (bound.Number 1) (bound.Number last) } ∷ [];
      arrays = [];
      scalars = [];
      procedures = [];
      body = Then 3 (Pardo (i ∷ []) [] End) End;
    }

-- with its classes and its input
abbrev pub chunks : Setting
chunks = record {
  program = chunks_program 16;
  scalars = [];
  sides = [];
  spaces = spaces_of [] [] (Segments kind.Index 1 16 ∷ []);
  numbers = [];
  blocks = [];
}

-- where it ends
abbrev pub chunks_final : Final
chunks_final = empty

-- how it runs
abbrev pub ChunksRuns : Type 0
ChunksRuns = Run chunks chunks_final None

-- the same with `index i = 1, 3` in line 2
abbrev pub chunks_three : Setting
chunks_three = record chunks { program = chunks_program 3; spaces = spaces_of [] [] (Segments kind.Index 1 3 ∷ []) }

-- how it runs
abbrev pub ChunksThreeRuns : Type 0
ChunksThreeRuns = Run chunks_three chunks_final None

-- the same with `index i = 1, 0` in line 2
abbrev pub chunks_none : Setting
chunks_none = record chunks { program = chunks_program 0; spaces = spaces_of [] [] (Segments kind.Index 1 0 ∷ []) }

-- how it runs
abbrev pub ChunksNoneRuns : Type 0
ChunksNoneRuns = Run chunks_none chunks_final None
