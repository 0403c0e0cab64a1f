-- Worked program: an add and a max into one block in one epoch.
--
--     1  sial mix
--     2  index i = 1, 2
--     3  index j = 1, 1
--     4  temp t(j)
--     5  distributed d(j)
--     6  create d
--     7  pardo i
--     8  do j
--     9  t(j) = 3
--    10  if i == 1
--    11  put d(j) += t(j)
--    12  else
--    13  put d(j) max= t(j)
--    14  endif
--    15  enddo j
--    16  endpardo i
--    17  endsial mix
--
-- Its input is empty.
use Rattle.std.specs.Prelude.{ℕ, [], ◌∷◌, codes, Some}
use Rattle.sial_syntax.specs.declared.access.Access.TheVariants as access
use Rattle.sial_syntax.specs.declared.access.Class.TheVariants as class
use Rattle.sial_syntax.specs.declared.array.ArrayKind.TheVariants as array
use Rattle.sial_syntax.specs.declared.classes.Side.TheVariants as side
use Rattle.sial_syntax.specs.declared.condition.Test.TheVariants as test
use Rattle.sial_syntax.specs.declared.condition.Value.TheVariants as value
use Rattle.sial_syntax.specs.declared.index.Bound.TheVariants as bound
use Rattle.sial_syntax.specs.declared.index.Kind.TheVariants as kind
use Rattle.sial_syntax.specs.declared.index.Range.TheVariants as range
use Rattle.sial_syntax.specs.declared.operand.BlockRef.{BlockRef}
use Rattle.sial_syntax.specs.declared.operand.Op.TheVariants as op
use Rattle.sial_syntax.specs.declared.operand.Operand.TheVariants as operand
use Rattle.sial_syntax.specs.declared.operand.Right.TheVariants.{One}
use Rattle.sial_syntax.specs.declared.operand.Target.TheVariants as target
use Rattle.sial_syntax.specs.Spaces.{Segments}
use Rattle.sial_syntax.specs.Tree.{Tree, End, Then, Do, Pardo, IfElse, Assign, Put, Create}
use Rattle.sial_meaning.specs.Accepted.{Clashed}
use Rattle.sial_meaning.specs.Setting.{Setting}
use Rattle.sial_worked.specs.Runs.{Final, Run, empty, spaces_of}

-- its tree
abbrev pub mix_program : Tree
mix_program =
    let i : ℕ = 0 in
    let j : ℕ = 1 in
    let t : ℕ = 0 in
    let d : ℕ = 1 in
    let t_j : BlockRef = record { array = t; at = j ∷ [] } in
    let d_j : BlockRef = record { array = d; at = j ∷ [] } in
    record {
      name = codes "mix";
      indices =
          record { name = codes "i"; line = 2; range = range.Segments kind.Index (bound.Number 1) (bound.Number 2) } ∷
          record { name = codes "j"; line = 3; range = range.Segments kind.Index (bound.Number 1) (bound.Number 1) } ∷
          [];
      arrays =
          record { name = codes "t"; line = 4; kind = array.Temp; dims = j ∷ [] } ∷
          record { name = codes "d"; line = 5; kind = array.Distributed; dims = j ∷ [] } ∷
          [];
      scalars = [];
      procedures = [];
      body =
          Then 6 (Create d) (
          Then 7 (Pardo (i ∷ []) [] (
          Then 8 (Do j (
          Then 9 (Assign (target.Block t_j) op.Set (One (operand.Number 3))) (
          Then 10 (IfElse (record { left = value.Index i; test = test.Equal; right = value.Number 1 }) (
          Then 11 (Put d_j access.Add t_j) End) (
          Then 13 (Put d_j access.Max t_j) End)) End))) End)) End);
    }

-- with its classes and its input
abbrev pub mix : Setting
mix = record {
  program = mix_program;
  scalars = [];
  sides = side.Unused ∷ side.Unused ∷ [];
  spaces = spaces_of [] [] (Segments kind.Index 1 2 ∷ Segments kind.Index 1 1 ∷ []);
  numbers = [];
  blocks = [];
}

-- where it ends
abbrev pub mix_final : Final
mix_final = record empty {
  statics = [] ∷ [] ∷ [];
  distributed = (3 ∷ []) ∷ [];
  epochs = record { distributed = 2; served = 1 };
  accesses = 2;
}

-- how it runs
abbrev pub MixRuns : Type 0
MixRuns =
    Run mix mix_final (Some (Clashed (record {
      class = class.Distributed;
      block = 0;
      epoch = 2;
      clash = record { later = access.Max; later_line = 13; earlier = access.Add; earlier_line = 11 };
    })))
