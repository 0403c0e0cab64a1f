-- Worked program: a local block that is allocated twice.
--
--     1  sial room
--     2  index i = 1, 2
--     3  local l(i)
--     4  do i
--     5  allocate l(i)
--     6  enddo i
--     7  do i
--     8  allocate l(*)
--     9  enddo i
--    10  endsial room
--
-- Its input is empty.
use Rattle.std.specs.Prelude.{ℕ, [], ◌∷◌, codes, Some}
use Rattle.sial_syntax.specs.declared.array.ArrayKind.TheVariants as array
use Rattle.sial_syntax.specs.declared.classes.Side.TheVariants as side
use Rattle.sial_syntax.specs.declared.index.Bound.TheVariants as bound
use Rattle.sial_syntax.specs.declared.index.Kind.TheVariants as kind
use Rattle.sial_syntax.specs.declared.index.Range.TheVariants as range
use Rattle.sial_syntax.specs.declared.operand.Slot.TheVariants as slot
use Rattle.sial_syntax.specs.Spaces.{Segments}
use Rattle.sial_syntax.specs.Tree.{Tree, End, Then, Do, Allocate}
use Rattle.sial_meaning.specs.declared.trap.TrapKind.TheVariants as trap
use Rattle.sial_meaning.specs.Accepted.{Trapped}
use Rattle.sial_meaning.specs.Setting.{Setting}
use Rattle.sial_worked.specs.Runs.{Final, Run, empty, spaces_of}

-- its tree
abbrev pub allocated_twice_program : Tree
allocated_twice_program =
    let i : ℕ = 0 in
    let l : ℕ = 0 in
    record {
      name = codes "room";
      indices = record { name = codes "i"; line = 2; range = range.Segments kind.Index (bound.Number 1) (bound.Number 2) } ∷ [];
      arrays = record { name = codes "l"; line = 3; kind = array.Local; dims = i ∷ [] } ∷ [];
      scalars = [];
      procedures = [];
      body =
          Then 4 (Do i (
          Then 5 (Allocate l (slot.At i ∷ [])) End)) (
          Then 7 (Do i (
          Then 8 (Allocate l (slot.All ∷ [])) End)) End);
    }

-- with its classes and its input
abbrev pub allocated_twice : Setting
allocated_twice = record {
  program = allocated_twice_program;
  scalars = [];
  sides = side.Outer ∷ [];
  spaces = spaces_of [] [] (Segments kind.Index 1 2 ∷ []);
  numbers = [];
  blocks = [];
}

-- where it ends
abbrev pub allocated_twice_final : Final
allocated_twice_final = record empty { statics = [] ∷ [] }

-- how it runs
abbrev pub AllocatedTwiceRuns : Type 0
AllocatedTwiceRuns = Run allocated_twice allocated_twice_final (Some (Trapped record { kind = trap.LocalTwice; line = 8 }))
