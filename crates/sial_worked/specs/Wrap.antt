-- Worked program: a sum that goes past the greatest number.
--
--     1  sial wrap
--     2  scalar x
--     3  x += 2
--     4  execute print_scalar x
--     5  endsial wrap
--
-- Its input: scalar x = 18446744073709551615
use Rattle.std.specs.Prelude.{ℕ, ◌-◌, ◌^◌, [], ◌∷◌, codes, Some, None}
use Rattle.sial_syntax.specs.declared.classes.ScalarClass.TheVariants as scalar
use Rattle.sial_syntax.specs.declared.operand.Op.TheVariants as op
use Rattle.sial_syntax.specs.declared.operand.Operand.TheVariants as operand
use Rattle.sial_syntax.specs.declared.operand.Right.TheVariants.{One}
use Rattle.sial_syntax.specs.declared.operand.Target.TheVariants as target
use Rattle.sial_syntax.specs.Tree.{Tree, End, Then, Assign, PrintScalar}
use Rattle.sial_meaning.specs.Setting.{Setting}
use Rattle.sial_worked.specs.Runs.{Final, Run, empty, spaces_of}

-- its tree
abbrev pub wrap_program : Tree
wrap_program =
    let x : ℕ = 0 in
    record {
      name = codes "wrap";
      indices = [];
      arrays = [];
      scalars = codes "x" ∷ [];
      procedures = [];
      body =
          Then 3 (Assign (target.Scalar x) op.Add (One (operand.Number 2))) (
          Then 4 (PrintScalar x) End);
    }

-- with its classes and its input
abbrev pub wrap : Setting
wrap = record {
  program = wrap_program;
  scalars = scalar.Replicated ∷ [];
  sides = [];
  spaces = spaces_of [] [] [];
  numbers = (2 ^ 64 - 1) ∷ [];
  blocks = [];
}

-- where it ends
abbrev pub wrap_final : Final
wrap_final = record empty { scalars = Some 1 ∷ []; partials = 0 ∷ []; lines = codes "x 1" ∷ [] }

-- how it runs
abbrev pub WrapRuns : Type 0
WrapRuns = Run wrap wrap_final None
