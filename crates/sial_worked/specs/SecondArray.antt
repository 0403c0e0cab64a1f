-- Worked program: a read and a store of a block of the second array.
--
--     1  sial second
--     2  index i = 1, 2
--     3  index j = 2, 3
--     4  temp t(i,j)
--     5  distributed d(i)
--     6  distributed e(i,j)
--     7  create d
--     8  create e
--     9  pardo i
--    10  do j
--    11  get d(i)
--    12  get e(i,j)
--    13  if i == 2
--    14  t(i,j) = 1
--    15  put e(i,j) = t(i,j)
--    16  endif
--    17  enddo j
--    18  endpardo i
--    19  endsial second
--
-- Its input is empty.
use Rattle.std.specs.Prelude.{ℕ, [], ◌∷◌, codes, Some}
use Rattle.sial_syntax.specs.declared.access.Access.TheVariants as access
use Rattle.sial_syntax.specs.declared.access.Class.TheVariants as class
use Rattle.sial_syntax.specs.declared.array.ArrayKind.TheVariants as array
use Rattle.sial_syntax.specs.declared.classes.Side.TheVariants as side
use Rattle.sial_syntax.specs.declared.condition.Test.TheVariants as test
use Rattle.sial_syntax.specs.declared.condition.Value.TheVariants as value
use Rattle.sial_syntax.specs.declared.index.Bound.TheVariants as bound
use Rattle.sial_syntax.specs.declared.index.Kind.TheVariants as kind
use Rattle.sial_syntax.specs.declared.index.Range.TheVariants as range
use Rattle.sial_syntax.specs.declared.operand.BlockRef.{BlockRef}
use Rattle.sial_syntax.specs.declared.operand.Op.TheVariants as op
use Rattle.sial_syntax.specs.declared.operand.Operand.TheVariants as operand
use Rattle.sial_syntax.specs.declared.operand.Right.TheVariants.{One}
use Rattle.sial_syntax.specs.declared.operand.Target.TheVariants as target
use Rattle.sial_syntax.specs.Spaces.{Segments}
use Rattle.sial_syntax.specs.Tree.{Tree, End, Then, Do, Pardo, If, Assign, Get, Put, Create}
use Rattle.sial_meaning.specs.Accepted.{Clashed}
use Rattle.sial_meaning.specs.Setting.{Setting}
use Rattle.sial_worked.specs.Runs.{Final, Run, empty, spaces_of}

-- its tree
abbrev pub second_array_program : Tree
second_array_program =
    let i : ℕ = 0 in
    let j : ℕ = 1 in
    let t : ℕ = 0 in
    let d : ℕ = 1 in
    let e : ℕ = 2 in
    let d_i : BlockRef = record { array = d; at = i ∷ [] } in
    let e_i_j : BlockRef = record { array = e; at = i ∷ j ∷ [] } in
    let t_i_j : BlockRef = record { array = t; at = i ∷ j ∷ [] } in
    record {
      name = codes "second";
      indices =
          record { name = codes "i"; line = 2; range = range.Segments kind.Index (bound.Number 1) (bound.Number 2) } ∷
          record { name = codes "j"; line = 3; range = range.Segments kind.Index (bound.Number 2) (bound.Number 3) } ∷
          [];
      arrays =
          record { name = codes "t"; line = 4; kind = array.Temp; dims = i ∷ j ∷ [] } ∷
          record { name = codes "d"; line = 5; kind = array.Distributed; dims = i ∷ [] } ∷
          record { name = codes "e"; line = 6; kind = array.Distributed; dims = i ∷ j ∷ [] } ∷
          [];
      scalars = [];
      procedures = [];
      body =
          Then 7 (Create d) (
          Then 8 (Create e) (
          Then 9 (Pardo (i ∷ []) [] (
          Then 10 (Do j (
          Then 11 (Get d_i) (
          Then 12 (Get e_i_j) (
          Then 13 (If (record { left = value.Index i; test = test.Equal; right = value.Number 2 }) (
          Then 14 (Assign (target.Block t_i_j) op.Set (One (operand.Number 1))) (
          Then 15 (Put e_i_j access.Store t_i_j) End))) End)))) End)) End));
    }

-- with its classes and its input
abbrev pub second_array : Setting
second_array = record {
  program = second_array_program;
  scalars = [];
  sides = side.Unused ∷ side.Unused ∷ side.Unused ∷ [];
  spaces = spaces_of [] [] (Segments kind.Index 1 2 ∷ Segments kind.Index 2 2 ∷ []);
  numbers = [];
  blocks = [];
}

-- where it ends
abbrev pub second_array_final : Final
second_array_final = record empty {
  statics = [] ∷ [] ∷ [] ∷ [];
  distributed = (0 ∷ []) ∷ (0 ∷ []) ∷ (0 ∷ []) ∷ (0 ∷ []) ∷ (1 ∷ []) ∷ (1 ∷ []) ∷ [];
  epochs = record { distributed = 3; served = 1 };
  accesses = 10;
}

-- how it runs
abbrev pub SecondArrayRuns : Type 0
SecondArrayRuns =
    Run second_array second_array_final (Some (Clashed (record {
      class = class.Distributed;
      block = 4;
      epoch = 3;
      clash = record { later = access.Store; later_line = 15; earlier = access.Read; earlier_line = 12 };
    })))
