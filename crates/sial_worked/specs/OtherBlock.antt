-- Worked program: a temp that holds another block.
--
--     1  sial other
--     2  index i = 1, 2
--     3  index j = 1, 2
--     4  temp t(i)
--     5  static a(i)
--     6  do i
--     7  t(i) = 4
--     8  enddo i
--     9  do j
--    10  a(j) = t(j)
--    11  enddo j
--    12  endsial other
--
-- Its input is empty.
use Rattle.std.specs.Prelude.{ℕ, [], ◌∷◌, codes, Some}
use Rattle.sial_syntax.specs.declared.array.ArrayKind.TheVariants as array
use Rattle.sial_syntax.specs.declared.classes.Side.TheVariants as side
use Rattle.sial_syntax.specs.declared.index.Bound.TheVariants as bound
use Rattle.sial_syntax.specs.declared.index.Kind.TheVariants as kind
use Rattle.sial_syntax.specs.declared.index.Range.TheVariants as range
use Rattle.sial_syntax.specs.declared.operand.BlockRef.{BlockRef}
use Rattle.sial_syntax.specs.declared.operand.Op.TheVariants as op
use Rattle.sial_syntax.specs.declared.operand.Operand.TheVariants as operand
use Rattle.sial_syntax.specs.declared.operand.Right.TheVariants.{One}
use Rattle.sial_syntax.specs.declared.operand.Target.TheVariants as target
use Rattle.sial_syntax.specs.Spaces.{Segments}
use Rattle.sial_syntax.specs.Tree.{Tree, End, Then, Do, Assign}
use Rattle.sial_meaning.specs.declared.trap.TrapKind.TheVariants as trap
use Rattle.sial_meaning.specs.Accepted.{Trapped}
use Rattle.sial_meaning.specs.Setting.{Setting}
use Rattle.sial_worked.specs.Runs.{Final, Run, empty, spaces_of}

-- its tree
abbrev pub other_block_program : Tree
other_block_program =
    let i : ℕ = 0 in
    let j : ℕ = 1 in
    let t : ℕ = 0 in
    let a : ℕ = 1 in
    let t_i : BlockRef = record { array = t; at = i ∷ [] } in
    let t_j : BlockRef = record { array = t; at = j ∷ [] } in
    let a_j : BlockRef = record { array = a; at = j ∷ [] } in
    record {
      name = codes "other";
      indices =
          record { name = codes "i"; line = 2; range = range.Segments kind.Index (bound.Number 1) (bound.Number 2) } ∷
          record { name = codes "j"; line = 3; range = range.Segments kind.Index (bound.Number 1) (bound.Number 2) } ∷
          [];
      arrays =
          record { name = codes "t"; line = 4; kind = array.Temp; dims = i ∷ [] } ∷
          record { name = codes "a"; line = 5; kind = array.Static; dims = i ∷ [] } ∷
          [];
      scalars = [];
      procedures = [];
      body =
          Then 6 (Do i (
          Then 7 (Assign (target.Block t_i) op.Set (One (operand.Number 4))) End)) (
          Then 9 (Do j (
          Then 10 (Assign (target.Block a_j) op.Set (One (operand.Block t_j))) End)) End);
    }

-- with its classes and its input
abbrev pub other_block : Setting
other_block = record {
  program = other_block_program;
  scalars = [];
  sides = side.Unused ∷ side.Unused ∷ [];
  spaces = spaces_of [] [] (Segments kind.Index 1 2 ∷ Segments kind.Index 1 2 ∷ []);
  numbers = [];
  blocks = [];
}

-- where it ends
abbrev pub other_block_final : Final
other_block_final = record empty { statics = [] ∷ ((0 ∷ []) ∷ (0 ∷ []) ∷ []) ∷ [] }

-- how it runs
abbrev pub OtherBlockRuns : Type 0
OtherBlockRuns = Run other_block other_block_final (Some (Trapped record { kind = trap.UnsetBlock; line = 10 }))
