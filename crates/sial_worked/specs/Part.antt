-- Worked program: a partial scalar that a condition reads.
--
--     1  sial part
--     2  index i = 1, 2
--     3  scalar s
--     4  pardo i
--     5  s += 1
--     6  endpardo i
--     7  if s > 0
--     8  print "yes"
--     9  endif
--    10  endsial part
--
-- Its input is empty.
use Rattle.std.specs.Prelude.{◌≡◌, ℕ, [], ◌∷◌, codes, Some, None}
use Rattle.sial_syntax.specs.declared.classes.ScalarClass.TheVariants as scalar
use Rattle.sial_syntax.specs.declared.condition.Test.TheVariants as test
use Rattle.sial_syntax.specs.declared.condition.Value.TheVariants as value
use Rattle.sial_syntax.specs.declared.index.Bound.TheVariants as bound
use Rattle.sial_syntax.specs.declared.index.Kind.TheVariants as kind
use Rattle.sial_syntax.specs.declared.index.Range.TheVariants as range
use Rattle.sial_syntax.specs.declared.operand.Op.TheVariants as op
use Rattle.sial_syntax.specs.declared.operand.Operand.TheVariants as operand
use Rattle.sial_syntax.specs.declared.operand.Right.TheVariants.{One}
use Rattle.sial_syntax.specs.declared.operand.Target.TheVariants as target
use Rattle.sial_syntax.specs.Spaces.{Segments}
use Rattle.sial_syntax.specs.Tree.{Tree, End, Then, Pardo, If, Assign, Print}
use Rattle.sial_meaning.specs.Setting.{Setting}
use Rattle.sial_worked.specs.Runs.{spaces_of}
use Rattle.sial_syntax.specs.Shapes.{shape_fault}
use Rattle.sial_syntax.specs.SideRules.{side_fault}
use Rattle.sial_syntax.specs.Sides.{scalar_classes}

-- its tree
abbrev pub part_program : Tree
part_program =
    let i : ℕ = 0 in
    let s : ℕ = 0 in
    record {
      name = codes "part";
      indices = record { name = codes "i"; line = 2; range = range.Segments kind.Index (bound.Number 1) (bound.Number 2) } ∷ [];
      arrays = [];
      scalars = codes "s" ∷ [];
      procedures = [];
      body =
          Then 4 (Pardo (i ∷ []) [] (
          Then 5 (Assign (target.Scalar s) op.Add (One (operand.Number 1))) End)) (
          Then 7 (If (record { left = value.Scalar s; test = test.Greater; right = value.Number 0 }) (
          Then 8 (Print (codes "yes")) End)) End);
    }

-- with its classes and its input
abbrev pub part : Setting
part = record {
  program = part_program;
  scalars = scalar.Partial ∷ [];
  sides = [];
  spaces = spaces_of [] [] (Segments kind.Index 1 2 ∷ []);
  numbers = 0 ∷ [];
  blocks = [];
}

-- the shape rules grant it, and a side rule refuses it: a partial scalar is read
pub record PartIsRefused : Type 0 where
  pub shapes : shape_fault part.program ≡ None
  pub sides : side_fault part.program ≡ Some (record { line = 7; rule = 8 })
  pub classes : scalar_classes part.program ≡ part.scalars
