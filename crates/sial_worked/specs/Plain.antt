-- Worked program: nothing at all.
--
--     1  sial p
--     2  endsial p
--
-- Its input is empty.
use Rattle.std.specs.Prelude.{[], codes, None}
use Rattle.sial_syntax.specs.Tree.{Tree, End}
use Rattle.sial_meaning.specs.Setting.{Setting}
use Rattle.sial_worked.specs.Runs.{Final, Run, empty, spaces_of}

-- its tree
abbrev pub plain_program : Tree
plain_program = record {
  name = codes "p";
  indices = [];
  arrays = [];
  scalars = [];
  procedures = [];
  body = End;
}

-- with its classes and its input
abbrev pub plain : Setting
plain = record {
  program = plain_program;
  scalars = [];
  sides = [];
  spaces = spaces_of [] [] [];
  numbers = [];
  blocks = [];
}

-- where it ends
abbrev pub plain_final : Final
plain_final = empty

-- how it runs
abbrev pub PlainRuns : Type 0
PlainRuns = Run plain plain_final None
