-- Worked program: six loops of 4,096 turns within each other: more steps than are counted.
--
--     1  sial deep
--     2  index a = 1, 4096
--     3  index b = 1, 4096
--     4  index c = 1, 4096
--     5  index d = 1, 4096
--     6  index e = 1, 4096
--     7  index f = 1, 4096
--     8  scalar x
--     9  do a
--    10  do b
--    11  do c
--    12  do d
--    13  do e
--    14  do f
--    15  x += 1
--    16  enddo f
--    17  enddo e
--    18  enddo d
--    19  enddo c
--    20  enddo b
--    21  enddo a
--    22  endsial deep
--
-- Its input is empty.
use Rattle.std.specs.Prelude.{ℕ, [], ◌∷◌, codes, replicate}
use Rattle.sial_syntax.specs.declared.classes.ScalarClass.TheVariants as scalar
use Rattle.sial_syntax.specs.declared.index.Bound.TheVariants as bound
use Rattle.sial_syntax.specs.declared.index.Kind.TheVariants as kind
use Rattle.sial_syntax.specs.declared.index.Range.TheVariants as range
use Rattle.sial_syntax.specs.declared.operand.Op.TheVariants as op
use Rattle.sial_syntax.specs.declared.operand.Operand.TheVariants as operand
use Rattle.sial_syntax.specs.declared.operand.Right.TheVariants.{One}
use Rattle.sial_syntax.specs.declared.operand.Target.TheVariants as target
use Rattle.sial_syntax.specs.Spaces.{Segments}
use Rattle.sial_syntax.specs.Tree.{Tree, Block, End, Then, Do, Assign}
use Rattle.sial_meaning.specs.Setting.{Setting}
use Rattle.sial_worked.specs.Runs.{spaces_of}

-- its tree, with this around the loop over `b`
abbrev pub deep_program : (around : Block → Block) → Tree
deep_program around =
    let b : ℕ = 1 in
    let c : ℕ = 2 in
    let d : ℕ = 3 in
    let e : ℕ = 4 in
    let f : ℕ = 5 in
    let x : ℕ = 0 in
    record {
      name = codes "deep";
      indices =
          record { name = codes "a"; line = 2; range = range.Segments kind.Index (bound.Number 1) (bound.Number 4096) } ∷
          record { name = codes "b"; line = 3; range = range.Segments kind.Index (bound.Number 1) (bound.Number 4096) } ∷
          record { name = codes "c"; line = 4; range = range.Segments kind.Index (bound.Number 1) (bound.Number 4096) } ∷
          record { name = codes "d"; line = 5; range = range.Segments kind.Index (bound.Number 1) (bound.Number 4096) } ∷
          record { name = codes "e"; line = 6; range = range.Segments kind.Index (bound.Number 1) (bound.Number 4096) } ∷
          record { name = codes "f"; line = 7; range = range.Segments kind.Index (bound.Number 1) (bound.Number 4096) } ∷
          [];
      arrays = [];
      scalars = codes "x" ∷ [];
      procedures = [];
      body =
          around (
          Then 10 (Do b (
          Then 11 (Do c (
          Then 12 (Do d (
          Then 13 (Do e (
          Then 14 (Do f (
          Then 15 (Assign (target.Scalar x) op.Add (One (operand.Number 1))) End)) End)) End)) End)) End)) End);
    }

-- with its classes and its input
abbrev pub deep : Setting
deep = record {
  program = deep_program (λ loops. Then 9 (Do 0 loops) End);
  scalars = scalar.Replicated ∷ [];
  sides = [];
  spaces = spaces_of [] [] (replicate 6 (Segments kind.Index 1 4096));
  numbers = 0 ∷ [];
  blocks = [];
}

-- the same without the outermost loop
abbrev pub deep_five : Setting
deep_five = record deep { program = deep_program (λ loops. loops) }
