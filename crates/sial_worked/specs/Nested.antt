-- Worked program: procedures that call procedures, with loops and branches.
--
--     1  sial nested
--     2  index i = 1, 2
--     3  index j = 1, 2
--     4  static a(i,j)
--     5  scalar x
--     6  proc inner
--     7  do j
--     8  x += 1
--     9  if j == 2
--    10  x += 10
--    11  endif
--    12  enddo j
--    13  endproc inner
--    14  proc outer
--    15  do i
--    16  call inner
--    17  if i < 2
--    18  x *= 2
--    19  else
--    20  x -= 1
--    21  endif
--    22  enddo i
--    23  endproc outer
--    24  do i
--    25  call outer
--    26  execute print_scalar x
--    27  do j
--    28  call outer
--    29  a(i,j) = x
--    30  enddo j
--    31  enddo i
--    32  print "done"
--    33  endsial nested
--
-- Its input: scalar x = 5
use Rattle.std.specs.Prelude.{ℕ, [], ◌∷◌, codes, Some, None}
use Rattle.sial_syntax.specs.declared.array.ArrayKind.TheVariants as array
use Rattle.sial_syntax.specs.declared.classes.ScalarClass.TheVariants as scalar
use Rattle.sial_syntax.specs.declared.classes.Side.TheVariants as side
use Rattle.sial_syntax.specs.declared.condition.Test.TheVariants as test
use Rattle.sial_syntax.specs.declared.condition.Value.TheVariants as value
use Rattle.sial_syntax.specs.declared.index.Bound.TheVariants as bound
use Rattle.sial_syntax.specs.declared.index.Kind.TheVariants as kind
use Rattle.sial_syntax.specs.declared.index.Range.TheVariants as range
use Rattle.sial_syntax.specs.declared.operand.BlockRef.{BlockRef}
use Rattle.sial_syntax.specs.declared.operand.Op.TheVariants as op
use Rattle.sial_syntax.specs.declared.operand.Operand.TheVariants as operand
use Rattle.sial_syntax.specs.declared.operand.Right.TheVariants.{One}
use Rattle.sial_syntax.specs.declared.operand.Target.TheVariants as target
use Rattle.sial_syntax.specs.Spaces.{Segments}
use Rattle.sial_syntax.specs.Tree.{Tree, End, Then, Do, If, IfElse, Call, Assign, Print, PrintScalar}
use Rattle.sial_meaning.specs.Setting.{Setting}
use Rattle.sial_worked.specs.Runs.{Final, Run, empty, spaces_of}

-- its tree
abbrev pub nested_program : Tree
nested_program =
    let i : ℕ = 0 in
    let j : ℕ = 1 in
    let a : ℕ = 0 in
    let x : ℕ = 0 in
    let inner : ℕ = 0 in
    let outer : ℕ = 1 in
    let a_i_j : BlockRef = record { array = a; at = i ∷ j ∷ [] } in
    record {
      name = codes "nested";
      indices =
          record { name = codes "i"; line = 2; range = range.Segments kind.Index (bound.Number 1) (bound.Number 2) } ∷
          record { name = codes "j"; line = 3; range = range.Segments kind.Index (bound.Number 1) (bound.Number 2) } ∷
          [];
      arrays = record { name = codes "a"; line = 4; kind = array.Static; dims = i ∷ j ∷ [] } ∷ [];
      scalars = codes "x" ∷ [];
      procedures =
          record {
            name = codes "inner";
            body =
                Then 7 (Do j (
                Then 8 (Assign (target.Scalar x) op.Add (One (operand.Number 1))) (
                Then 9 (If (record { left = value.Index j; test = test.Equal; right = value.Number 2 }) (
                Then 10 (Assign (target.Scalar x) op.Add (One (operand.Number 10))) End)) End))) End;
          } ∷
          record {
            name = codes "outer";
            body =
                Then 15 (Do i (
                Then 16 (Call inner) (
                Then 17 (IfElse (record { left = value.Index i; test = test.Less; right = value.Number 2 }) (
                Then 18 (Assign (target.Scalar x) op.Scale (One (operand.Number 2))) End) (
                Then 20 (Assign (target.Scalar x) op.Subtract (One (operand.Number 1))) End)) End))) End;
          } ∷
          [];
      body =
          Then 24 (Do i (
          Then 25 (Call outer) (
          Then 26 (PrintScalar x) (
          Then 27 (Do j (
          Then 28 (Call outer) (
          Then 29 (Assign (target.Block a_i_j) op.Set (One (operand.Scalar x))) End))) End)))) (
          Then 32 (Print (codes "done")) End);
    }

-- with its classes and its input
abbrev pub nested : Setting
nested = record {
  program = nested_program;
  scalars = scalar.Replicated ∷ [];
  sides = side.Unused ∷ [];
  spaces = spaces_of [] [] (Segments kind.Index 1 2 ∷ Segments kind.Index 1 2 ∷ []);
  numbers = 5 ∷ [];
  blocks = [];
}

-- where it ends
abbrev pub nested_final : Final
nested_final = record empty {
  scalars = Some 2525 ∷ [];
  partials = 0 ∷ [];
  statics = ((125 ∷ []) ∷ (285 ∷ []) ∷ (1245 ∷ []) ∷ (2525 ∷ []) ∷ []) ∷ [];
  lines = codes "x 45" ∷ codes "x 605" ∷ codes "done" ∷ [];
}

-- how it runs
abbrev pub NestedRuns : Type 0
NestedRuns = Run nested nested_final None
