-- Worked program: a partial scalar that is set to 0 between a pardo that adds and one that subtracts.
--
--     1  sial reset
--     2  index i = 1, 2
--     3  scalar s
--     4  scalar e
--     5  pardo i
--     6  s += 1
--     7  endpardo i
--     8  s = 0
--     9  pardo i
--    10  s -= 1
--    11  endpardo i
--    12  collective e += s
--    13  execute print_scalar e
--    14  endsial reset
--
-- Its input is empty.
use Rattle.std.specs.Prelude.{ℕ, ◌-◌, ◌^◌, [], ◌∷◌, codes, Some, None}
use Rattle.sial_syntax.specs.declared.classes.ScalarClass.TheVariants as scalar
use Rattle.sial_syntax.specs.declared.index.Bound.TheVariants as bound
use Rattle.sial_syntax.specs.declared.index.Kind.TheVariants as kind
use Rattle.sial_syntax.specs.declared.index.Range.TheVariants as range
use Rattle.sial_syntax.specs.declared.operand.Op.TheVariants as op
use Rattle.sial_syntax.specs.declared.operand.Operand.TheVariants as operand
use Rattle.sial_syntax.specs.declared.operand.Right.TheVariants.{One}
use Rattle.sial_syntax.specs.declared.operand.Target.TheVariants as target
use Rattle.sial_syntax.specs.Spaces.{Segments}
use Rattle.sial_syntax.specs.Tree.{Tree, End, Then, Pardo, Assign, Collective, PrintScalar}
use Rattle.sial_meaning.specs.Setting.{Setting}
use Rattle.sial_worked.specs.Runs.{Final, Run, empty, spaces_of}

-- its tree
abbrev pub reset_program : Tree
reset_program =
    let i : ℕ = 0 in
    let s : ℕ = 0 in
    let e : ℕ = 1 in
    record {
      name = codes "reset";
      indices = record { name = codes "i"; line = 2; range = range.Segments kind.Index (bound.Number 1) (bound.Number 2) } ∷ [];
      arrays = [];
      scalars = codes "s" ∷ codes "e" ∷ [];
      procedures = [];
      body =
          Then 5 (Pardo (i ∷ []) [] (
          Then 6 (Assign (target.Scalar s) op.Add (One (operand.Number 1))) End)) (
          Then 8 (Assign (target.Scalar s) op.Set (One (operand.Number 0))) (
          Then 9 (Pardo (i ∷ []) [] (
          Then 10 (Assign (target.Scalar s) op.Subtract (One (operand.Number 1))) End)) (
          Then 12 (Collective e s) (
          Then 13 (PrintScalar e) End))));
    }

-- with its classes and its input
abbrev pub reset : Setting
reset = record {
  program = reset_program;
  scalars = scalar.Partial ∷ scalar.Replicated ∷ [];
  sides = [];
  spaces = spaces_of [] [] (Segments kind.Index 1 2 ∷ []);
  numbers = 0 ∷ 0 ∷ [];
  blocks = [];
}

-- where it ends
abbrev pub reset_final : Final
reset_final = record empty {
  scalars = None ∷ Some (2 ^ 64 - 2) ∷ [];
  partials = (2 ^ 64 - 2) ∷ 0 ∷ [];
  lines = codes "e 18446744073709551614" ∷ [];
}

-- how it runs
abbrev pub ResetRuns : Type 0
ResetRuns = Run reset reset_final None
