-- Worked program: an array that is deleted and created again.
--
--     1  sial again
--     2  index i = 1, 1
--     3  temp t(i)
--     4  distributed d(i)
--     5  create d
--     6  pardo i
--     7  t(i) = 5
--     8  put d(i) = t(i)
--     9  endpardo i
--    10  delete d
--    11  create d
--    12  pardo i
--    13  t(i) = 1
--    14  put d(i) += t(i)
--    15  endpardo i
--    16  endsial again
--
-- Its input is empty.
use Rattle.std.specs.Prelude.{ℕ, [], ◌∷◌, codes, None}
use Rattle.sial_syntax.specs.declared.access.Access.TheVariants as access
use Rattle.sial_syntax.specs.declared.array.ArrayKind.TheVariants as array
use Rattle.sial_syntax.specs.declared.classes.Side.TheVariants as side
use Rattle.sial_syntax.specs.declared.index.Bound.TheVariants as bound
use Rattle.sial_syntax.specs.declared.index.Kind.TheVariants as kind
use Rattle.sial_syntax.specs.declared.index.Range.TheVariants as range
use Rattle.sial_syntax.specs.declared.operand.BlockRef.{BlockRef}
use Rattle.sial_syntax.specs.declared.operand.Op.TheVariants as op
use Rattle.sial_syntax.specs.declared.operand.Operand.TheVariants as operand
use Rattle.sial_syntax.specs.declared.operand.Right.TheVariants.{One}
use Rattle.sial_syntax.specs.declared.operand.Target.TheVariants as target
use Rattle.sial_syntax.specs.Spaces.{Segments}
use Rattle.sial_syntax.specs.Tree.{Tree, End, Then, Pardo, Assign, Put, Create, Delete}
use Rattle.sial_meaning.specs.Setting.{Setting}
use Rattle.sial_worked.specs.Runs.{Final, Run, empty, spaces_of}

-- its tree
abbrev pub again_program : Tree
again_program =
    let i : ℕ = 0 in
    let t : ℕ = 0 in
    let d : ℕ = 1 in
    let t_i : BlockRef = record { array = t; at = i ∷ [] } in
    let d_i : BlockRef = record { array = d; at = i ∷ [] } in
    record {
      name = codes "again";
      indices = record { name = codes "i"; line = 2; range = range.Segments kind.Index (bound.Number 1) (bound.Number 1) } ∷ [];
      arrays =
          record { name = codes "t"; line = 3; kind = array.Temp; dims = i ∷ [] } ∷
          record { name = codes "d"; line = 4; kind = array.Distributed; dims = i ∷ [] } ∷
          [];
      scalars = [];
      procedures = [];
      body =
          Then 5 (Create d) (
          Then 6 (Pardo (i ∷ []) [] (
          Then 7 (Assign (target.Block t_i) op.Set (One (operand.Number 5))) (
          Then 8 (Put d_i access.Store t_i) End))) (
          Then 10 (Delete d) (
          Then 11 (Create d) (
          Then 12 (Pardo (i ∷ []) [] (
          Then 13 (Assign (target.Block t_i) op.Set (One (operand.Number 1))) (
          Then 14 (Put d_i access.Add t_i) End))) End))));
    }

-- with its classes and its input
abbrev pub again : Setting
again = record {
  program = again_program;
  scalars = [];
  sides = side.Unused ∷ side.Unused ∷ [];
  spaces = spaces_of [] [] (Segments kind.Index 1 1 ∷ []);
  numbers = [];
  blocks = [];
}

-- where it ends
abbrev pub again_final : Final
again_final = record empty {
  statics = [] ∷ [] ∷ [];
  distributed = (1 ∷ []) ∷ [];
  epochs = record { distributed = 4; served = 1 };
  accesses = 2;
}

-- how it runs
abbrev pub AgainRuns : Type 0
AgainRuns = Run again again_final None
