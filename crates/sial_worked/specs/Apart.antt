-- Worked program: a read of one block and an add into another in one epoch.
--
--     1  sial apart
--     2  index i = 1, 2
--     3  temp t(i)
--     4  distributed d(i)
--     5  create d
--     6  pardo i
--     7  if i == 1
--     8  get d(i)
--     9  else
--    10  t(i) = 1
--    11  put d(i) += t(i)
--    12  endif
--    13  endpardo i
--    14  endsial apart
--
-- Its input is empty.
use Rattle.std.specs.Prelude.{ℕ, [], ◌∷◌, codes, None}
use Rattle.sial_syntax.specs.declared.access.Access.TheVariants as access
use Rattle.sial_syntax.specs.declared.array.ArrayKind.TheVariants as array
use Rattle.sial_syntax.specs.declared.classes.Side.TheVariants as side
use Rattle.sial_syntax.specs.declared.condition.Test.TheVariants as test
use Rattle.sial_syntax.specs.declared.condition.Value.TheVariants as value
use Rattle.sial_syntax.specs.declared.index.Bound.TheVariants as bound
use Rattle.sial_syntax.specs.declared.index.Kind.TheVariants as kind
use Rattle.sial_syntax.specs.declared.index.Range.TheVariants as range
use Rattle.sial_syntax.specs.declared.operand.BlockRef.{BlockRef}
use Rattle.sial_syntax.specs.declared.operand.Op.TheVariants as op
use Rattle.sial_syntax.specs.declared.operand.Operand.TheVariants as operand
use Rattle.sial_syntax.specs.declared.operand.Right.TheVariants.{One}
use Rattle.sial_syntax.specs.declared.operand.Target.TheVariants as target
use Rattle.sial_syntax.specs.Spaces.{Segments}
use Rattle.sial_syntax.specs.Tree.{Tree, End, Then, Pardo, IfElse, Assign, Get, Put, Create}
use Rattle.sial_meaning.specs.Setting.{Setting}
use Rattle.sial_worked.specs.Runs.{Final, Run, empty, spaces_of}

-- its tree
abbrev pub apart_program : Tree
apart_program =
    let i : ℕ = 0 in
    let t : ℕ = 0 in
    let d : ℕ = 1 in
    let d_i : BlockRef = record { array = d; at = i ∷ [] } in
    let t_i : BlockRef = record { array = t; at = i ∷ [] } in
    record {
      name = codes "apart";
      indices = record { name = codes "i"; line = 2; range = range.Segments kind.Index (bound.Number 1) (bound.Number 2) } ∷ [];
      arrays =
          record { name = codes "t"; line = 3; kind = array.Temp; dims = i ∷ [] } ∷
          record { name = codes "d"; line = 4; kind = array.Distributed; dims = i ∷ [] } ∷
          [];
      scalars = [];
      procedures = [];
      body =
          Then 5 (Create d) (
          Then 6 (Pardo (i ∷ []) [] (
          Then 7 (IfElse (record { left = value.Index i; test = test.Equal; right = value.Number 1 }) (
          Then 8 (Get d_i) End) (
          Then 10 (Assign (target.Block t_i) op.Set (One (operand.Number 1))) (
          Then 11 (Put d_i access.Add t_i) End))) End)) End);
    }

-- with its classes and its input
abbrev pub apart : Setting
apart = record {
  program = apart_program;
  scalars = [];
  sides = side.Unused ∷ side.Unused ∷ [];
  spaces = spaces_of [] [] (Segments kind.Index 1 2 ∷ []);
  numbers = [];
  blocks = [];
}

-- where it ends
abbrev pub apart_final : Final
apart_final = record empty {
  statics = [] ∷ [] ∷ [];
  distributed = (0 ∷ []) ∷ (1 ∷ []) ∷ [];
  epochs = record { distributed = 2; served = 1 };
  accesses = 2;
}

-- how it runs
abbrev pub ApartRuns : Type 0
ApartRuns = Run apart apart_final None
