-- Worked program: blocks and a scalar that the input gives.
--
--     1  sial given
--     2  moindex i = 1, 2
--     3  static a(i)
--     4  served v(i)
--     5  scalar x
--     6  do i
--     7  request v(i) i
--     8  a(i) += v(i)
--     9  x += 1
--    10  execute print_scalar x
--    11  enddo i
--    12  endsial given
--
-- Its input:
--        segments mo 2 1
--        scalar x = 7
--        block a 1 = 3 4
--        block v 1 = 10 20
--        block v 2 = 30
use Rattle.std.specs.Prelude.{ℕ, [], ◌∷◌, codes, Some, None}
use Rattle.sial_syntax.specs.declared.array.ArrayKind.TheVariants as array
use Rattle.sial_syntax.specs.declared.classes.ScalarClass.TheVariants as scalar
use Rattle.sial_syntax.specs.declared.classes.Side.TheVariants as side
use Rattle.sial_syntax.specs.declared.index.Bound.TheVariants as bound
use Rattle.sial_syntax.specs.declared.index.Kind.TheVariants as kind
use Rattle.sial_syntax.specs.declared.index.Range.TheVariants as range
use Rattle.sial_syntax.specs.declared.operand.BlockRef.{BlockRef}
use Rattle.sial_syntax.specs.declared.operand.Op.TheVariants as op
use Rattle.sial_syntax.specs.declared.operand.Operand.TheVariants as operand
use Rattle.sial_syntax.specs.declared.operand.Right.TheVariants.{One}
use Rattle.sial_syntax.specs.declared.operand.Target.TheVariants as target
use Rattle.sial_syntax.specs.Spaces.{Segments}
use Rattle.sial_syntax.specs.Tree.{Tree, End, Then, Do, Assign, Request, PrintScalar}
use Rattle.sial_meaning.specs.Setting.{Setting}
use Rattle.sial_worked.specs.Runs.{Final, Run, empty, spaces_of}

-- its tree
abbrev pub given_program : Tree
given_program =
    let i : ℕ = 0 in
    let a : ℕ = 0 in
    let v : ℕ = 1 in
    let x : ℕ = 0 in
    let v_i : BlockRef = record { array = v; at = i ∷ [] } in
    let a_i : BlockRef = record { array = a; at = i ∷ [] } in
    record {
      name = codes "given";
      indices = record { name = codes "i"; line = 2; range = range.Segments kind.Mo (bound.Number 1) (bound.Number 2) } ∷ [];
      arrays =
          record { name = codes "a"; line = 3; kind = array.Static; dims = i ∷ [] } ∷
          record { name = codes "v"; line = 4; kind = array.Served; dims = i ∷ [] } ∷
          [];
      scalars = codes "x" ∷ [];
      procedures = [];
      body =
          Then 6 (Do i (
          Then 7 (Request v_i) (
          Then 8 (Assign (target.Block a_i) op.Add (One (operand.Block v_i))) (
          Then 9 (Assign (target.Scalar x) op.Add (One (operand.Number 1))) (
          Then 10 (PrintScalar x) End))))) End;
    }

-- with its classes and its input
abbrev pub given : Setting
given = record {
  program = given_program;
  scalars = scalar.Replicated ∷ [];
  sides = side.Unused ∷ side.Unused ∷ [];
  spaces = spaces_of [] (2 ∷ 1 ∷ []) (Segments kind.Mo 1 2 ∷ []);
  numbers = 7 ∷ [];
  blocks =
      record { array = 0; number = 0; words = 3 ∷ 4 ∷ [] } ∷
      record { array = 1; number = 0; words = 10 ∷ 20 ∷ [] } ∷
      record { array = 1; number = 1; words = 30 ∷ [] } ∷
      [];
}

-- where it ends
abbrev pub given_final : Final
given_final = record empty {
  scalars = Some 9 ∷ [];
  partials = 0 ∷ [];
  statics = ((13 ∷ 24 ∷ []) ∷ (30 ∷ []) ∷ []) ∷ [] ∷ [];
  served = (10 ∷ 20 ∷ []) ∷ (30 ∷ []) ∷ [];
  accesses = 4;
  lines = codes "x 8" ∷ codes "x 9" ∷ [];
}

-- how it runs
abbrev pub GivenRuns : Type 0
GivenRuns = Run given given_final None
