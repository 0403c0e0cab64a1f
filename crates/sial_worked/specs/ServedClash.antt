-- Worked program: two reads and an add of a served block, beside a distributed one of the same number.
--
--     1  sial served_clash
--     2  index i = 1, 2
--     3  temp t(i)
--     4  served v(i)
--     5  served w(i)
--     6  distributed d(i)
--     7  create d
--     8  pardo i
--     9  t(i) = 4
--    10  put d(i) = t(i)
--    11  request w(i) i
--    12  t(i) = w(i)
--    13  prepare v(i) = t(i)
--    14  endpardo i
--    15  server_barrier
--    16  pardo i
--    17  request w(i) i
--    18  request w(i) i
--    19  t(i) = 1
--    20  prepare v(i) max= t(i)
--    21  if i > 1
--    22  prepare w(i) += t(i)
--    23  endif
--    24  endpardo i
--    25  endsial served_clash
--
-- Its input is empty.
use Rattle.std.specs.Prelude.{ℕ, [], ◌∷◌, codes, Some}
use Rattle.sial_syntax.specs.declared.access.Access.TheVariants as access
use Rattle.sial_syntax.specs.declared.access.Class.TheVariants as class
use Rattle.sial_syntax.specs.declared.array.ArrayKind.TheVariants as array
use Rattle.sial_syntax.specs.declared.classes.Side.TheVariants as side
use Rattle.sial_syntax.specs.declared.condition.Test.TheVariants as test
use Rattle.sial_syntax.specs.declared.condition.Value.TheVariants as value
use Rattle.sial_syntax.specs.declared.index.Bound.TheVariants as bound
use Rattle.sial_syntax.specs.declared.index.Kind.TheVariants as kind
use Rattle.sial_syntax.specs.declared.index.Range.TheVariants as range
use Rattle.sial_syntax.specs.declared.operand.BlockRef.{BlockRef}
use Rattle.sial_syntax.specs.declared.operand.Op.TheVariants as op
use Rattle.sial_syntax.specs.declared.operand.Operand.TheVariants as operand
use Rattle.sial_syntax.specs.declared.operand.Right.TheVariants.{One}
use Rattle.sial_syntax.specs.declared.operand.Target.TheVariants as target
use Rattle.sial_syntax.specs.Spaces.{Segments}
use Rattle.sial_syntax.specs.Tree.{Tree, End, Then, Pardo, If, Assign, Request, Put, Prepare, Create, ServerBarrier}
use Rattle.sial_meaning.specs.Accepted.{Clashed}
use Rattle.sial_meaning.specs.Setting.{Setting}
use Rattle.sial_worked.specs.Runs.{Final, Run, empty, spaces_of}

-- its tree
abbrev pub served_clash_program : Tree
served_clash_program =
    let i : ℕ = 0 in
    let t : ℕ = 0 in
    let v : ℕ = 1 in
    let w : ℕ = 2 in
    let d : ℕ = 3 in
    let t_i : BlockRef = record { array = t; at = i ∷ [] } in
    let d_i : BlockRef = record { array = d; at = i ∷ [] } in
    let w_i : BlockRef = record { array = w; at = i ∷ [] } in
    let v_i : BlockRef = record { array = v; at = i ∷ [] } in
    record {
      name = codes "served_clash";
      indices = record { name = codes "i"; line = 2; range = range.Segments kind.Index (bound.Number 1) (bound.Number 2) } ∷ [];
      arrays =
          record { name = codes "t"; line = 3; kind = array.Temp; dims = i ∷ [] } ∷
          record { name = codes "v"; line = 4; kind = array.Served; dims = i ∷ [] } ∷
          record { name = codes "w"; line = 5; kind = array.Served; dims = i ∷ [] } ∷
          record { name = codes "d"; line = 6; kind = array.Distributed; dims = i ∷ [] } ∷
          [];
      scalars = [];
      procedures = [];
      body =
          Then 7 (Create d) (
          Then 8 (Pardo (i ∷ []) [] (
          Then 9 (Assign (target.Block t_i) op.Set (One (operand.Number 4))) (
          Then 10 (Put d_i access.Store t_i) (
          Then 11 (Request w_i) (
          Then 12 (Assign (target.Block t_i) op.Set (One (operand.Block w_i))) (
          Then 13 (Prepare v_i access.Store t_i) End)))))) (
          Then 15 ServerBarrier (
          Then 16 (Pardo (i ∷ []) [] (
          Then 17 (Request w_i) (
          Then 18 (Request w_i) (
          Then 19 (Assign (target.Block t_i) op.Set (One (operand.Number 1))) (
          Then 20 (Prepare v_i access.Max t_i) (
          Then 21 (If (record { left = value.Index i; test = test.Greater; right = value.Number 1 }) (
          Then 22 (Prepare w_i access.Add t_i) End)) End)))))) End)));
    }

-- with its classes and its input
abbrev pub served_clash : Setting
served_clash = record {
  program = served_clash_program;
  scalars = [];
  sides = side.Unused ∷ side.Unused ∷ side.Unused ∷ side.Unused ∷ [];
  spaces = spaces_of [] [] (Segments kind.Index 1 2 ∷ []);
  numbers = [];
  blocks = [];
}

-- where it ends
abbrev pub served_clash_final : Final
served_clash_final = record empty {
  statics = [] ∷ [] ∷ [] ∷ [] ∷ [];
  distributed = (4 ∷ []) ∷ (4 ∷ []) ∷ [];
  served = (1 ∷ []) ∷ (1 ∷ []) ∷ (0 ∷ []) ∷ (1 ∷ []) ∷ [];
  epochs = record { distributed = 2; served = 2 };
  accesses = 15;
}

-- how it runs
abbrev pub ServedClashRuns : Type 0
ServedClashRuns =
    Run served_clash served_clash_final (Some (Clashed (record {
      class = class.Served;
      block = 3;
      epoch = 2;
      clash = record { later = access.Add; later_line = 22; earlier = access.Read; earlier_line = 17 };
    })))
