-- Worked program: a local block that isn't allocated.
--
--     1  sial room
--     2  index i = 1, 2
--     3  local l(i)
--     4  static a(i)
--     5  do i
--     6  if i == 1
--     7  allocate l(i)
--     8  endif
--     9  l(i) = 6
--    10  a(i) = l(i)
--    11  enddo i
--    12  endsial room
--
-- Its input is empty.
use Rattle.std.specs.Prelude.{ℕ, [], ◌∷◌, codes, Some}
use Rattle.sial_syntax.specs.declared.array.ArrayKind.TheVariants as array
use Rattle.sial_syntax.specs.declared.classes.Side.TheVariants as side
use Rattle.sial_syntax.specs.declared.condition.Test.TheVariants as test
use Rattle.sial_syntax.specs.declared.condition.Value.TheVariants as value
use Rattle.sial_syntax.specs.declared.index.Bound.TheVariants as bound
use Rattle.sial_syntax.specs.declared.index.Kind.TheVariants as kind
use Rattle.sial_syntax.specs.declared.index.Range.TheVariants as range
use Rattle.sial_syntax.specs.declared.operand.BlockRef.{BlockRef}
use Rattle.sial_syntax.specs.declared.operand.Op.TheVariants as op
use Rattle.sial_syntax.specs.declared.operand.Operand.TheVariants as operand
use Rattle.sial_syntax.specs.declared.operand.Right.TheVariants.{One}
use Rattle.sial_syntax.specs.declared.operand.Slot.TheVariants as slot
use Rattle.sial_syntax.specs.declared.operand.Target.TheVariants as target
use Rattle.sial_syntax.specs.Spaces.{Segments}
use Rattle.sial_syntax.specs.Tree.{Tree, End, Then, Do, If, Assign, Allocate}
use Rattle.sial_meaning.specs.declared.trap.TrapKind.TheVariants as trap
use Rattle.sial_meaning.specs.Accepted.{Trapped}
use Rattle.sial_meaning.specs.Setting.{Setting}
use Rattle.sial_worked.specs.Runs.{Final, Run, empty, spaces_of}

-- its tree
abbrev pub not_allocated_program : Tree
not_allocated_program =
    let i : ℕ = 0 in
    let l : ℕ = 0 in
    let a : ℕ = 1 in
    let l_i : BlockRef = record { array = l; at = i ∷ [] } in
    let a_i : BlockRef = record { array = a; at = i ∷ [] } in
    record {
      name = codes "room";
      indices = record { name = codes "i"; line = 2; range = range.Segments kind.Index (bound.Number 1) (bound.Number 2) } ∷ [];
      arrays =
          record { name = codes "l"; line = 3; kind = array.Local; dims = i ∷ [] } ∷
          record { name = codes "a"; line = 4; kind = array.Static; dims = i ∷ [] } ∷
          [];
      scalars = [];
      procedures = [];
      body =
          Then 5 (Do i (
          Then 6 (If (record { left = value.Index i; test = test.Equal; right = value.Number 1 }) (
          Then 7 (Allocate l (slot.At i ∷ [])) End)) (
          Then 9 (Assign (target.Block l_i) op.Set (One (operand.Number 6))) (
          Then 10 (Assign (target.Block a_i) op.Set (One (operand.Block l_i))) End)))) End;
    }

-- with its classes and its input
abbrev pub not_allocated : Setting
not_allocated = record {
  program = not_allocated_program;
  scalars = [];
  sides = side.Outer ∷ side.Unused ∷ [];
  spaces = spaces_of [] [] (Segments kind.Index 1 2 ∷ []);
  numbers = [];
  blocks = [];
}

-- where it ends
abbrev pub not_allocated_final : Final
not_allocated_final = record empty { statics = [] ∷ ((6 ∷ []) ∷ (0 ∷ []) ∷ []) ∷ [] }

-- how it runs
abbrev pub NotAllocatedRuns : Type 0
NotAllocatedRuns = Run not_allocated not_allocated_final (Some (Trapped record { kind = trap.LocalMissing; line = 9 }))
