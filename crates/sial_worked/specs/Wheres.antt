-- Worked program: pardos over a part of their box.
--
--     1  sial wheres
--     2  index i = 1, 3
--     3  index j = 2, 4
--     4  distributed d(i,j)
--     5  temp t(i,j)
--     6  create d
--     7  pardo i, j
--     8  where i < j
--     9  where j != 3
--    10  execute compute_integrals t(i,j)
--    11  put d(i,j) = t(i,j)
--    12  endpardo i, j
--    13  sip_barrier
--    14  pardo i, j
--    15  where i == j
--    16  t(i,j) = 7
--    17  put d(i,j) += t(i,j)
--    18  endpardo i, j
--    19  endsial wheres
--
-- Its input is empty.
use Rattle.std.specs.Prelude.{ℕ, [], ◌∷◌, codes, None}
use Rattle.sial_syntax.specs.declared.access.Access.TheVariants as access
use Rattle.sial_syntax.specs.declared.array.ArrayKind.TheVariants as array
use Rattle.sial_syntax.specs.declared.classes.Side.TheVariants as side
use Rattle.sial_syntax.specs.declared.condition.Cond.{Cond}
use Rattle.sial_syntax.specs.declared.condition.Test.TheVariants as test
use Rattle.sial_syntax.specs.declared.condition.Value.TheVariants as value
use Rattle.sial_syntax.specs.declared.index.Bound.TheVariants as bound
use Rattle.sial_syntax.specs.declared.index.Kind.TheVariants as kind
use Rattle.sial_syntax.specs.declared.index.Range.TheVariants as range
use Rattle.sial_syntax.specs.declared.operand.BlockRef.{BlockRef}
use Rattle.sial_syntax.specs.declared.operand.Op.TheVariants as op
use Rattle.sial_syntax.specs.declared.operand.Operand.TheVariants as operand
use Rattle.sial_syntax.specs.declared.operand.Right.TheVariants.{One}
use Rattle.sial_syntax.specs.declared.operand.Target.TheVariants as target
use Rattle.sial_syntax.specs.Spaces.{Segments}
use Rattle.sial_syntax.specs.Tree.{Tree, End, Then, Pardo, Assign, Put, Create, SipBarrier, Integrals}
use Rattle.sial_meaning.specs.Setting.{Setting}
use Rattle.sial_worked.specs.Runs.{Final, Run, empty, spaces_of}

-- its tree
abbrev pub wheres_program : Tree
wheres_program =
    let i : ℕ = 0 in
    let j : ℕ = 1 in
    let d : ℕ = 0 in
    let t : ℕ = 1 in
    let where_8 : Cond = record { left = value.Index i; test = test.Less; right = value.Index j } in
    let where_9 : Cond = record { left = value.Index j; test = test.NotEqual; right = value.Number 3 } in
    let t_i_j : BlockRef = record { array = t; at = i ∷ j ∷ [] } in
    let d_i_j : BlockRef = record { array = d; at = i ∷ j ∷ [] } in
    let where_15 : Cond = record { left = value.Index i; test = test.Equal; right = value.Index j } in
    record {
      name = codes "wheres";
      indices =
          record { name = codes "i"; line = 2; range = range.Segments kind.Index (bound.Number 1) (bound.Number 3) } ∷
          record { name = codes "j"; line = 3; range = range.Segments kind.Index (bound.Number 2) (bound.Number 4) } ∷
          [];
      arrays =
          record { name = codes "d"; line = 4; kind = array.Distributed; dims = i ∷ j ∷ [] } ∷
          record { name = codes "t"; line = 5; kind = array.Temp; dims = i ∷ j ∷ [] } ∷
          [];
      scalars = [];
      procedures = [];
      body =
          Then 6 (Create d) (
          Then 7 (Pardo (i ∷ j ∷ []) (where_8 ∷ where_9 ∷ []) (
          Then 10 (Integrals t_i_j) (
          Then 11 (Put d_i_j access.Store t_i_j) End))) (
          Then 13 SipBarrier (
          Then 14 (Pardo (i ∷ j ∷ []) (where_15 ∷ []) (
          Then 16 (Assign (target.Block t_i_j) op.Set (One (operand.Number 7))) (
          Then 17 (Put d_i_j access.Add t_i_j) End))) End)));
    }

-- with its classes and its input
abbrev pub wheres : Setting
wheres = record {
  program = wheres_program;
  scalars = [];
  sides = side.Unused ∷ side.Unused ∷ [];
  spaces = spaces_of [] [] (Segments kind.Index 1 3 ∷ Segments kind.Index 2 3 ∷ []);
  numbers = [];
  blocks = [];
}

-- where it ends
abbrev pub wheres_final : Final
wheres_final = record empty {
  statics = [] ∷ [] ∷ [];
  distributed = (7 ∷ []) ∷ (0 ∷ []) ∷ (13 ∷ []) ∷ (7 ∷ []) ∷ (0 ∷ []) ∷ (14 ∷ []) ∷ (0 ∷ []) ∷ (7 ∷ []) ∷ (15 ∷ []) ∷ [];
  epochs = record { distributed = 3; served = 1 };
  accesses = 6;
}

-- how it runs
abbrev pub WheresRuns : Type 0
WheresRuns = Run wheres wheres_final None
