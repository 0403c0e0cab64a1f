-- Worked program: four arrays that are read together.
--
--     1  sial tight
--     2  index i = 1, 1
--     3  distributed x(i)
--     4  distributed y(i)
--     5  distributed z(i)
--     6  distributed u(i)
--     7  scalar s
--     8  create x
--     9  create y
--    10  create z
--    11  create u
--    12  do i
--    13  get x(i)
--    14  get y(i)
--    15  s = z(i) * u(i)
--    16  enddo i
--    17  execute print_scalar s
--    18  endsial tight
--
-- Its input is empty.
use Rattle.std.specs.Prelude.{ℕ, [], ◌∷◌, codes, Some, None}
use Rattle.sial_syntax.specs.declared.array.ArrayKind.TheVariants as array
use Rattle.sial_syntax.specs.declared.classes.ScalarClass.TheVariants as scalar
use Rattle.sial_syntax.specs.declared.classes.Side.TheVariants as side
use Rattle.sial_syntax.specs.declared.index.Bound.TheVariants as bound
use Rattle.sial_syntax.specs.declared.index.Kind.TheVariants as kind
use Rattle.sial_syntax.specs.declared.index.Range.TheVariants as range
use Rattle.sial_syntax.specs.declared.operand.Bin.TheVariants as bin
use Rattle.sial_syntax.specs.declared.operand.BlockRef.{BlockRef}
use Rattle.sial_syntax.specs.declared.operand.Op.TheVariants as op
use Rattle.sial_syntax.specs.declared.operand.Operand.TheVariants as operand
use Rattle.sial_syntax.specs.declared.operand.Right.TheVariants.{Two}
use Rattle.sial_syntax.specs.declared.operand.Target.TheVariants as target
use Rattle.sial_syntax.specs.Spaces.{Segments}
use Rattle.sial_syntax.specs.Tree.{Tree, End, Then, Do, Assign, Get, Create, PrintScalar}
use Rattle.sial_meaning.specs.Setting.{Setting}
use Rattle.sial_worked.specs.Runs.{Final, Run, empty, spaces_of}

-- its tree
abbrev pub tight_program : Tree
tight_program =
    let i : ℕ = 0 in
    let x : ℕ = 0 in
    let y : ℕ = 1 in
    let z : ℕ = 2 in
    let u : ℕ = 3 in
    let s : ℕ = 0 in
    let x_i : BlockRef = record { array = x; at = i ∷ [] } in
    let y_i : BlockRef = record { array = y; at = i ∷ [] } in
    let z_i : BlockRef = record { array = z; at = i ∷ [] } in
    let u_i : BlockRef = record { array = u; at = i ∷ [] } in
    record {
      name = codes "tight";
      indices = record { name = codes "i"; line = 2; range = range.Segments kind.Index (bound.Number 1) (bound.Number 1) } ∷ [];
      arrays =
          record { name = codes "x"; line = 3; kind = array.Distributed; dims = i ∷ [] } ∷
          record { name = codes "y"; line = 4; kind = array.Distributed; dims = i ∷ [] } ∷
          record { name = codes "z"; line = 5; kind = array.Distributed; dims = i ∷ [] } ∷
          record { name = codes "u"; line = 6; kind = array.Distributed; dims = i ∷ [] } ∷
          [];
      scalars = codes "s" ∷ [];
      procedures = [];
      body =
          Then 8 (Create x) (
          Then 9 (Create y) (
          Then 10 (Create z) (
          Then 11 (Create u) (
          Then 12 (Do i (
          Then 13 (Get x_i) (
          Then 14 (Get y_i) (
          Then 15 (Assign (target.Scalar s) op.Set (Two (operand.Block z_i) bin.Times (operand.Block u_i))) End)))) (
          Then 17 (PrintScalar s) End)))));
    }

-- with its classes and its input
abbrev pub tight : Setting
tight = record {
  program = tight_program;
  scalars = scalar.Replicated ∷ [];
  sides = side.Unused ∷ side.Unused ∷ side.Unused ∷ side.Unused ∷ [];
  spaces = spaces_of [] [] (Segments kind.Index 1 1 ∷ []);
  numbers = 0 ∷ [];
  blocks = [];
}

-- where it ends
abbrev pub tight_final : Final
tight_final = record empty {
  scalars = Some 0 ∷ [];
  partials = 0 ∷ [];
  statics = [] ∷ [] ∷ [] ∷ [] ∷ [];
  distributed = (0 ∷ []) ∷ (0 ∷ []) ∷ (0 ∷ []) ∷ (0 ∷ []) ∷ [];
  epochs = record { distributed = 5; served = 1 };
  accesses = 4;
  lines = codes "s 0" ∷ [];
}

-- how it runs
abbrev pub TightRuns : Type 0
TightRuns = Run tight tight_final None
