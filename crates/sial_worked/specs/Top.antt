-- Worked program: the greatest of some numbers in a served block.
--
--     1  sial top
--     2  index i = 1, 4
--     3  index j = 1, 1
--     4  temp t(i)
--     5  temp u(j)
--     6  served v(j)
--     7  scalar s
--     8  scalar g
--     9  pardo i
--    10  execute compute_integrals t(i)
--    11  s = t(i) * t(i)
--    12  do j
--    13  u(j) = s
--    14  prepare v(j) max= u(j)
--    15  enddo j
--    16  endpardo i
--    17  server_barrier
--    18  do j
--    19  u(j) = 1
--    20  g = v(j) * u(j)
--    21  execute print_scalar g
--    22  enddo j
--    23  endsial top
--
-- Its input is empty.
use Rattle.std.specs.Prelude.{ℕ, [], ◌∷◌, codes, Some, None}
use Rattle.sial_syntax.specs.declared.access.Access.TheVariants as access
use Rattle.sial_syntax.specs.declared.array.ArrayKind.TheVariants as array
use Rattle.sial_syntax.specs.declared.classes.ScalarClass.TheVariants as scalar
use Rattle.sial_syntax.specs.declared.classes.Side.TheVariants as side
use Rattle.sial_syntax.specs.declared.index.Bound.TheVariants as bound
use Rattle.sial_syntax.specs.declared.index.Kind.TheVariants as kind
use Rattle.sial_syntax.specs.declared.index.Range.TheVariants as range
use Rattle.sial_syntax.specs.declared.operand.Bin.TheVariants as bin
use Rattle.sial_syntax.specs.declared.operand.BlockRef.{BlockRef}
use Rattle.sial_syntax.specs.declared.operand.Op.TheVariants as op
use Rattle.sial_syntax.specs.declared.operand.Operand.TheVariants as operand
use Rattle.sial_syntax.specs.declared.operand.Right.TheVariants.{One, Two}
use Rattle.sial_syntax.specs.declared.operand.Target.TheVariants as target
use Rattle.sial_syntax.specs.Spaces.{Segments}
use Rattle.sial_syntax.specs.Tree.{Tree, End, Then, Do, Pardo, Assign, Prepare, ServerBarrier, PrintScalar, Integrals}
use Rattle.sial_meaning.specs.Setting.{Setting}
use Rattle.sial_worked.specs.Runs.{Final, Run, empty, spaces_of}

-- its tree
abbrev pub top_program : Tree
top_program =
    let i : ℕ = 0 in
    let j : ℕ = 1 in
    let t : ℕ = 0 in
    let u : ℕ = 1 in
    let v : ℕ = 2 in
    let s : ℕ = 0 in
    let g : ℕ = 1 in
    let t_i : BlockRef = record { array = t; at = i ∷ [] } in
    let u_j : BlockRef = record { array = u; at = j ∷ [] } in
    let v_j : BlockRef = record { array = v; at = j ∷ [] } in
    record {
      name = codes "top";
      indices =
          record { name = codes "i"; line = 2; range = range.Segments kind.Index (bound.Number 1) (bound.Number 4) } ∷
          record { name = codes "j"; line = 3; range = range.Segments kind.Index (bound.Number 1) (bound.Number 1) } ∷
          [];
      arrays =
          record { name = codes "t"; line = 4; kind = array.Temp; dims = i ∷ [] } ∷
          record { name = codes "u"; line = 5; kind = array.Temp; dims = j ∷ [] } ∷
          record { name = codes "v"; line = 6; kind = array.Served; dims = j ∷ [] } ∷
          [];
      scalars = codes "s" ∷ codes "g" ∷ [];
      procedures = [];
      body =
          Then 9 (Pardo (i ∷ []) [] (
          Then 10 (Integrals t_i) (
          Then 11 (Assign (target.Scalar s) op.Set (Two (operand.Block t_i) bin.Times (operand.Block t_i))) (
          Then 12 (Do j (
          Then 13 (Assign (target.Block u_j) op.Set (One (operand.Scalar s))) (
          Then 14 (Prepare v_j access.Max u_j) End))) End)))) (
          Then 17 ServerBarrier (
          Then 18 (Do j (
          Then 19 (Assign (target.Block u_j) op.Set (One (operand.Number 1))) (
          Then 20 (Assign (target.Scalar g) op.Set (Two (operand.Block v_j) bin.Times (operand.Block u_j))) (
          Then 21 (PrintScalar g) End)))) End));
    }

-- with its classes and its input
abbrev pub top : Setting
top = record {
  program = top_program;
  scalars = scalar.Private ∷ scalar.Replicated ∷ [];
  sides = side.Unused ∷ side.Unused ∷ side.Unused ∷ [];
  spaces = spaces_of [] [] (Segments kind.Index 1 4 ∷ Segments kind.Index 1 1 ∷ []);
  numbers = 0 ∷ 0 ∷ [];
  blocks = [];
}

-- where it ends
abbrev pub top_final : Final
top_final = record empty {
  scalars = None ∷ Some 16 ∷ [];
  partials = 0 ∷ 0 ∷ [];
  statics = [] ∷ [] ∷ [] ∷ [];
  served = (16 ∷ []) ∷ [];
  epochs = record { distributed = 1; served = 2 };
  accesses = 5;
  lines = codes "g 16" ∷ [];
}

-- how it runs
abbrev pub TopRuns : Type 0
TopRuns = Run top top_final None
