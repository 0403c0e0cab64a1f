-- Worked program: a private scalar that an iteration before has set.
--
--     1  sial private
--     2  index i = 1, 2
--     3  scalar x
--     4  pardo i
--     5  if i == 1
--     6  x = 1
--     7  endif
--     8  x *= 2
--     9  endpardo i
--    10  endsial private
--
-- Its input is empty.
use Rattle.std.specs.Prelude.{ℕ, [], ◌∷◌, codes, Some, None}
use Rattle.sial_syntax.specs.declared.classes.ScalarClass.TheVariants as scalar
use Rattle.sial_syntax.specs.declared.condition.Test.TheVariants as test
use Rattle.sial_syntax.specs.declared.condition.Value.TheVariants as value
use Rattle.sial_syntax.specs.declared.index.Bound.TheVariants as bound
use Rattle.sial_syntax.specs.declared.index.Kind.TheVariants as kind
use Rattle.sial_syntax.specs.declared.index.Range.TheVariants as range
use Rattle.sial_syntax.specs.declared.operand.Op.TheVariants as op
use Rattle.sial_syntax.specs.declared.operand.Operand.TheVariants as operand
use Rattle.sial_syntax.specs.declared.operand.Right.TheVariants.{One}
use Rattle.sial_syntax.specs.declared.operand.Target.TheVariants as target
use Rattle.sial_syntax.specs.Spaces.{Segments}
use Rattle.sial_syntax.specs.Tree.{Tree, End, Then, Pardo, If, Assign}
use Rattle.sial_meaning.specs.declared.trap.TrapKind.TheVariants as trap
use Rattle.sial_meaning.specs.Accepted.{Trapped}
use Rattle.sial_meaning.specs.Setting.{Setting}
use Rattle.sial_worked.specs.Runs.{Final, Run, empty, spaces_of}

-- its tree
abbrev pub private_program : Tree
private_program =
    let i : ℕ = 0 in
    let x : ℕ = 0 in
    record {
      name = codes "private";
      indices = record { name = codes "i"; line = 2; range = range.Segments kind.Index (bound.Number 1) (bound.Number 2) } ∷ [];
      arrays = [];
      scalars = codes "x" ∷ [];
      procedures = [];
      body =
          Then 4 (Pardo (i ∷ []) [] (
          Then 5 (If (record { left = value.Index i; test = test.Equal; right = value.Number 1 }) (
          Then 6 (Assign (target.Scalar x) op.Set (One (operand.Number 1))) End)) (
          Then 8 (Assign (target.Scalar x) op.Scale (One (operand.Number 2))) End))) End;
    }

-- with its classes and its input
abbrev pub private : Setting
private = record {
  program = private_program;
  scalars = scalar.Private ∷ [];
  sides = [];
  spaces = spaces_of [] [] (Segments kind.Index 1 2 ∷ []);
  numbers = 0 ∷ [];
  blocks = [];
}

-- where it ends
abbrev pub private_final : Final
private_final = record empty { scalars = None ∷ []; partials = 0 ∷ [] }

-- how it runs
abbrev pub PrivateRuns : Type 0
PrivateRuns = Run private private_final (Some (Trapped record { kind = trap.UnsetScalar; line = 8 }))
