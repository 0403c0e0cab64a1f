-- Worked program: a barrier alone.
--
--     1  sial b
--     2  sip_barrier
--     3  endsial b
--
-- Its input is empty.
use Rattle.std.specs.Prelude.{[], codes, None}
use Rattle.sial_syntax.specs.Tree.{Tree, End, Then, SipBarrier}
use Rattle.sial_meaning.specs.Setting.{Setting}
use Rattle.sial_worked.specs.Runs.{Final, Run, empty, spaces_of}

-- its tree
abbrev pub barrier_program : Tree
barrier_program = record {
  name = codes "b";
  indices = [];
  arrays = [];
  scalars = [];
  procedures = [];
  body = Then 2 SipBarrier End;
}

-- with its classes and its input
abbrev pub barrier : Setting
barrier = record {
  program = barrier_program;
  scalars = [];
  sides = [];
  spaces = spaces_of [] [] [];
  numbers = [];
  blocks = [];
}

-- where it ends
abbrev pub barrier_final : Final
barrier_final = record empty { epochs = record { distributed = 2; served = 1 } }

-- how it runs
abbrev pub BarrierRuns : Type 0
BarrierRuns = Run barrier barrier_final None
