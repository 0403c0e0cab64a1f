-- Worked program: an array that is read and deleted.
--
--     1  sial gone
--     2  index i = 1, 2
--     3  temp t(i)
--     4  distributed d(i)
--     5  create d
--     6  pardo i
--     7  get d(i)
--     8  t(i) = d(i)
--     9  endpardo i
--    10  delete d
--    11  endsial gone
--
-- Its input is empty.
use Rattle.std.specs.Prelude.{ℕ, [], ◌∷◌, codes, None}
use Rattle.sial_syntax.specs.declared.array.ArrayKind.TheVariants as array
use Rattle.sial_syntax.specs.declared.classes.Side.TheVariants as side
use Rattle.sial_syntax.specs.declared.index.Bound.TheVariants as bound
use Rattle.sial_syntax.specs.declared.index.Kind.TheVariants as kind
use Rattle.sial_syntax.specs.declared.index.Range.TheVariants as range
use Rattle.sial_syntax.specs.declared.operand.BlockRef.{BlockRef}
use Rattle.sial_syntax.specs.declared.operand.Op.TheVariants as op
use Rattle.sial_syntax.specs.declared.operand.Operand.TheVariants as operand
use Rattle.sial_syntax.specs.declared.operand.Right.TheVariants.{One}
use Rattle.sial_syntax.specs.declared.operand.Target.TheVariants as target
use Rattle.sial_syntax.specs.Spaces.{Segments}
use Rattle.sial_syntax.specs.Tree.{Tree, End, Then, Pardo, Assign, Get, Create, Delete}
use Rattle.sial_meaning.specs.Setting.{Setting}
use Rattle.sial_worked.specs.Runs.{Final, Run, empty, spaces_of}

-- its tree
abbrev pub gone_program : Tree
gone_program =
    let i : ℕ = 0 in
    let t : ℕ = 0 in
    let d : ℕ = 1 in
    let d_i : BlockRef = record { array = d; at = i ∷ [] } in
    let t_i : BlockRef = record { array = t; at = i ∷ [] } in
    record {
      name = codes "gone";
      indices = record { name = codes "i"; line = 2; range = range.Segments kind.Index (bound.Number 1) (bound.Number 2) } ∷ [];
      arrays =
          record { name = codes "t"; line = 3; kind = array.Temp; dims = i ∷ [] } ∷
          record { name = codes "d"; line = 4; kind = array.Distributed; dims = i ∷ [] } ∷
          [];
      scalars = [];
      procedures = [];
      body =
          Then 5 (Create d) (
          Then 6 (Pardo (i ∷ []) [] (
          Then 7 (Get d_i) (
          Then 8 (Assign (target.Block t_i) op.Set (One (operand.Block d_i))) End))) (
          Then 10 (Delete d) End));
    }

-- with its classes and its input
abbrev pub gone : Setting
gone = record {
  program = gone_program;
  scalars = [];
  sides = side.Unused ∷ side.Unused ∷ [];
  spaces = spaces_of [] [] (Segments kind.Index 1 2 ∷ []);
  numbers = [];
  blocks = [];
}

-- where it ends
abbrev pub gone_final : Final
gone_final = record empty {
  statics = [] ∷ [] ∷ [];
  distributed = [] ∷ [] ∷ [];
  epochs = record { distributed = 3; served = 1 };
  accesses = 4;
}

-- how it runs
abbrev pub GoneRuns : Type 0
GoneRuns = Run gone gone_final None
