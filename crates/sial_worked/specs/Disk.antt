-- Worked program: a served array, written in a pardo and read in a loop.
--
--     1  sial disk
--     2  index i = 1, 3
--     3  temp t(i)
--     4  served v(i)
--     5  scalar s
--     6  pardo i
--     7  execute compute_integrals t(i)
--     8  prepare v(i) = t(i)
--     9  endpardo i
--    10  server_barrier
--    11  do i
--    12  request v(i) i
--    13  t(i) = 1
--    14  s = t(i) * v(i)
--    15  execute print_scalar s
--    16  enddo i
--    17  endsial disk
--
-- Its input is empty.
use Rattle.std.specs.Prelude.{ℕ, [], ◌∷◌, codes, Some, None}
use Rattle.sial_syntax.specs.declared.access.Access.TheVariants as access
use Rattle.sial_syntax.specs.declared.array.ArrayKind.TheVariants as array
use Rattle.sial_syntax.specs.declared.classes.ScalarClass.TheVariants as scalar
use Rattle.sial_syntax.specs.declared.classes.Side.TheVariants as side
use Rattle.sial_syntax.specs.declared.index.Bound.TheVariants as bound
use Rattle.sial_syntax.specs.declared.index.Kind.TheVariants as kind
use Rattle.sial_syntax.specs.declared.index.Range.TheVariants as range
use Rattle.sial_syntax.specs.declared.operand.Bin.TheVariants as bin
use Rattle.sial_syntax.specs.declared.operand.BlockRef.{BlockRef}
use Rattle.sial_syntax.specs.declared.operand.Op.TheVariants as op
use Rattle.sial_syntax.specs.declared.operand.Operand.TheVariants as operand
use Rattle.sial_syntax.specs.declared.operand.Right.TheVariants.{One, Two}
use Rattle.sial_syntax.specs.declared.operand.Target.TheVariants as target
use Rattle.sial_syntax.specs.Spaces.{Segments}
use Rattle.sial_syntax.specs.Tree.{Tree, End, Then, Do, Pardo, Assign, Request, Prepare, ServerBarrier, PrintScalar, Integrals}
use Rattle.sial_meaning.specs.Setting.{Setting}
use Rattle.sial_worked.specs.Runs.{Final, Run, empty, spaces_of}

-- its tree
abbrev pub disk_program : Tree
disk_program =
    let i : ℕ = 0 in
    let t : ℕ = 0 in
    let v : ℕ = 1 in
    let s : ℕ = 0 in
    let t_i : BlockRef = record { array = t; at = i ∷ [] } in
    let v_i : BlockRef = record { array = v; at = i ∷ [] } in
    record {
      name = codes "disk";
      indices = record { name = codes "i"; line = 2; range = range.Segments kind.Index (bound.Number 1) (bound.Number 3) } ∷ [];
      arrays =
          record { name = codes "t"; line = 3; kind = array.Temp; dims = i ∷ [] } ∷
          record { name = codes "v"; line = 4; kind = array.Served; dims = i ∷ [] } ∷
          [];
      scalars = codes "s" ∷ [];
      procedures = [];
      body =
          Then 6 (Pardo (i ∷ []) [] (
          Then 7 (Integrals t_i) (
          Then 8 (Prepare v_i access.Store t_i) End))) (
          Then 10 ServerBarrier (
          Then 11 (Do i (
          Then 12 (Request v_i) (
          Then 13 (Assign (target.Block t_i) op.Set (One (operand.Number 1))) (
          Then 14 (Assign (target.Scalar s) op.Set (Two (operand.Block t_i) bin.Times (operand.Block v_i))) (
          Then 15 (PrintScalar s) End))))) End));
    }

-- with its classes and its input
abbrev pub disk : Setting
disk = record {
  program = disk_program;
  scalars = scalar.Replicated ∷ [];
  sides = side.Unused ∷ side.Unused ∷ [];
  spaces = spaces_of [] [] (Segments kind.Index 1 3 ∷ []);
  numbers = 0 ∷ [];
  blocks = [];
}

-- where it ends
abbrev pub disk_final : Final
disk_final = record empty {
  scalars = Some 3 ∷ [];
  partials = 0 ∷ [];
  statics = [] ∷ [] ∷ [];
  served = (1 ∷ []) ∷ (2 ∷ []) ∷ (3 ∷ []) ∷ [];
  epochs = record { distributed = 1; served = 2 };
  accesses = 9;
  lines = codes "s 1" ∷ codes "s 2" ∷ codes "s 3" ∷ [];
}

-- how it runs
abbrev pub DiskRuns : Type 0
DiskRuns = Run disk disk_final None
