-- Worked program: an insertion into a temp that isn't set.
--
--     1  sial inserted
--     2  moindex i = 1, 1
--     3  subindex ii of i
--     4  temp t(i)
--     5  temp u(ii)
--     6  do i
--     7  do ii in i
--     8  u(ii) = 1
--     9  t(i) = u(ii)
--    10  enddo ii
--    11  enddo i
--    12  endsial inserted
--
-- Its input:
--        segments mo 2
--        subsegment mo 1
use Rattle.std.specs.Prelude.{ℕ, [], ◌∷◌, codes, Some}
use Rattle.sial_syntax.specs.declared.array.ArrayKind.TheVariants as array
use Rattle.sial_syntax.specs.declared.classes.Side.TheVariants as side
use Rattle.sial_syntax.specs.declared.index.Bound.TheVariants as bound
use Rattle.sial_syntax.specs.declared.index.Kind.TheVariants as kind
use Rattle.sial_syntax.specs.declared.index.Range.TheVariants as range
use Rattle.sial_syntax.specs.declared.operand.BlockRef.{BlockRef}
use Rattle.sial_syntax.specs.declared.operand.Op.TheVariants as op
use Rattle.sial_syntax.specs.declared.operand.Operand.TheVariants as operand
use Rattle.sial_syntax.specs.declared.operand.Right.TheVariants.{One}
use Rattle.sial_syntax.specs.declared.operand.Target.TheVariants as target
use Rattle.sial_syntax.specs.Spaces.{Segments, Pieces}
use Rattle.sial_syntax.specs.Tree.{Tree, End, Then, Do, DoIn, Assign}
use Rattle.sial_meaning.specs.declared.trap.TrapKind.TheVariants as trap
use Rattle.sial_meaning.specs.Accepted.{Trapped}
use Rattle.sial_meaning.specs.Setting.{Setting}
use Rattle.sial_worked.specs.Runs.{Final, Run, empty, cut_spaces}

-- its tree
abbrev pub inserted_program : Tree
inserted_program =
    let i : ℕ = 0 in
    let ii : ℕ = 1 in
    let t : ℕ = 0 in
    let u : ℕ = 1 in
    let u_ii : BlockRef = record { array = u; at = ii ∷ [] } in
    let t_i : BlockRef = record { array = t; at = i ∷ [] } in
    record {
      name = codes "inserted";
      indices =
          record { name = codes "i"; line = 2; range = range.Segments kind.Mo (bound.Number 1) (bound.Number 1) } ∷
          record { name = codes "ii"; line = 3; range = range.Sub i } ∷
          [];
      arrays =
          record { name = codes "t"; line = 4; kind = array.Temp; dims = i ∷ [] } ∷
          record { name = codes "u"; line = 5; kind = array.Temp; dims = ii ∷ [] } ∷
          [];
      scalars = [];
      procedures = [];
      body =
          Then 6 (Do i (
          Then 7 (DoIn ii i (
          Then 8 (Assign (target.Block u_ii) op.Set (One (operand.Number 1))) (
          Then 9 (Assign (target.Block t_i) op.Set (One (operand.Block u_ii))) End))) End)) End;
    }

-- with its classes and its input
abbrev pub inserted : Setting
inserted = record {
  program = inserted_program;
  scalars = [];
  sides = side.Unused ∷ side.Unused ∷ [];
  spaces = cut_spaces (2 ∷ []) 1 (Segments kind.Mo 1 1 ∷ Pieces 0 ∷ []);
  numbers = [];
  blocks = [];
}

-- where it ends
abbrev pub inserted_final : Final
inserted_final = record empty { statics = [] ∷ [] ∷ [] }

-- how it runs
abbrev pub InsertedRuns : Type 0
InsertedRuns = Run inserted inserted_final (Some (Trapped record { kind = trap.UnsetBlock; line = 9 }))
