-- Worked program: a static array, filled, doubled and multiplied with itself.
--
--     1  sial first
--     2  aoindex i = 1, 2
--     3  static a(i)
--     4  scalar s
--     5  do i
--     6  a(i) = 3
--     7  a(i) += a(i)
--     8  s = a(i) * a(i)
--     9  execute print_scalar s
--    10  enddo i
--    11  endsial first
--
-- Its input: segments ao 2 1
use Rattle.std.specs.Prelude.{ℕ, [], ◌∷◌, codes, Some, None}
use Rattle.sial_syntax.specs.declared.array.ArrayKind.TheVariants as array
use Rattle.sial_syntax.specs.declared.classes.ScalarClass.TheVariants as scalar
use Rattle.sial_syntax.specs.declared.classes.Side.TheVariants as side
use Rattle.sial_syntax.specs.declared.index.Bound.TheVariants as bound
use Rattle.sial_syntax.specs.declared.index.Kind.TheVariants as kind
use Rattle.sial_syntax.specs.declared.index.Range.TheVariants as range
use Rattle.sial_syntax.specs.declared.operand.Bin.TheVariants as bin
use Rattle.sial_syntax.specs.declared.operand.BlockRef.{BlockRef}
use Rattle.sial_syntax.specs.declared.operand.Op.TheVariants as op
use Rattle.sial_syntax.specs.declared.operand.Operand.TheVariants as operand
use Rattle.sial_syntax.specs.declared.operand.Right.TheVariants.{One, Two}
use Rattle.sial_syntax.specs.declared.operand.Target.TheVariants as target
use Rattle.sial_syntax.specs.Spaces.{Segments}
use Rattle.sial_syntax.specs.Tree.{Tree, End, Then, Do, Assign, PrintScalar}
use Rattle.sial_meaning.specs.Setting.{Setting}
use Rattle.sial_worked.specs.Runs.{Final, Run, empty, spaces_of}

-- its tree
abbrev pub first_program : Tree
first_program =
    let i : ℕ = 0 in
    let a : ℕ = 0 in
    let s : ℕ = 0 in
    let a_i : BlockRef = record { array = a; at = i ∷ [] } in
    record {
      name = codes "first";
      indices = record { name = codes "i"; line = 2; range = range.Segments kind.Ao (bound.Number 1) (bound.Number 2) } ∷ [];
      arrays = record { name = codes "a"; line = 3; kind = array.Static; dims = i ∷ [] } ∷ [];
      scalars = codes "s" ∷ [];
      procedures = [];
      body =
          Then 5 (Do i (
          Then 6 (Assign (target.Block a_i) op.Set (One (operand.Number 3))) (
          Then 7 (Assign (target.Block a_i) op.Add (One (operand.Block a_i))) (
          Then 8 (Assign (target.Scalar s) op.Set (Two (operand.Block a_i) bin.Times (operand.Block a_i))) (
          Then 9 (PrintScalar s) End))))) End;
    }

-- with its classes and its input
abbrev pub first : Setting
first = record {
  program = first_program;
  scalars = scalar.Replicated ∷ [];
  sides = side.Unused ∷ [];
  spaces = spaces_of (2 ∷ 1 ∷ []) [] (Segments kind.Ao 1 2 ∷ []);
  numbers = 0 ∷ [];
  blocks = [];
}

-- where it ends
abbrev pub first_final : Final
first_final = record empty {
  scalars = Some 36 ∷ [];
  partials = 0 ∷ [];
  statics = ((6 ∷ 6 ∷ []) ∷ (6 ∷ []) ∷ []) ∷ [];
  lines = codes "s 72" ∷ codes "s 36" ∷ [];
}

-- how it runs
abbrev pub FirstRuns : Type 0
FirstRuns = Run first first_final None
