-- Worked program: a temp that isn't set, beside an array that is created.
--
--     1  sial unset
--     2  index i = 1, 1
--     3  temp t(i)
--     4  distributed d(i)
--     5  scalar x
--     6  create d
--     7  do i
--     8  x = t(i) * d(i)
--     9  enddo i
--    10  endsial unset
--
-- Its input is empty.
use Rattle.std.specs.Prelude.{ℕ, [], ◌∷◌, codes, Some}
use Rattle.sial_syntax.specs.declared.array.ArrayKind.TheVariants as array
use Rattle.sial_syntax.specs.declared.classes.ScalarClass.TheVariants as scalar
use Rattle.sial_syntax.specs.declared.classes.Side.TheVariants as side
use Rattle.sial_syntax.specs.declared.index.Bound.TheVariants as bound
use Rattle.sial_syntax.specs.declared.index.Kind.TheVariants as kind
use Rattle.sial_syntax.specs.declared.index.Range.TheVariants as range
use Rattle.sial_syntax.specs.declared.operand.Bin.TheVariants as bin
use Rattle.sial_syntax.specs.declared.operand.BlockRef.{BlockRef}
use Rattle.sial_syntax.specs.declared.operand.Op.TheVariants as op
use Rattle.sial_syntax.specs.declared.operand.Operand.TheVariants as operand
use Rattle.sial_syntax.specs.declared.operand.Right.TheVariants.{Two}
use Rattle.sial_syntax.specs.declared.operand.Target.TheVariants as target
use Rattle.sial_syntax.specs.Spaces.{Segments}
use Rattle.sial_syntax.specs.Tree.{Tree, End, Then, Do, Assign, Create}
use Rattle.sial_meaning.specs.declared.trap.TrapKind.TheVariants as trap
use Rattle.sial_meaning.specs.Accepted.{Trapped}
use Rattle.sial_meaning.specs.Setting.{Setting}
use Rattle.sial_worked.specs.Runs.{Final, Run, empty, spaces_of}

-- its tree
abbrev pub unset_after_program : Tree
unset_after_program =
    let i : ℕ = 0 in
    let t : ℕ = 0 in
    let d : ℕ = 1 in
    let x : ℕ = 0 in
    let t_i : BlockRef = record { array = t; at = i ∷ [] } in
    let d_i : BlockRef = record { array = d; at = i ∷ [] } in
    record {
      name = codes "unset";
      indices = record { name = codes "i"; line = 2; range = range.Segments kind.Index (bound.Number 1) (bound.Number 1) } ∷ [];
      arrays =
          record { name = codes "t"; line = 3; kind = array.Temp; dims = i ∷ [] } ∷
          record { name = codes "d"; line = 4; kind = array.Distributed; dims = i ∷ [] } ∷
          [];
      scalars = codes "x" ∷ [];
      procedures = [];
      body =
          Then 6 (Create d) (
          Then 7 (Do i (
          Then 8 (Assign (target.Scalar x) op.Set (Two (operand.Block t_i) bin.Times (operand.Block d_i))) End)) End);
    }

-- with its classes and its input
abbrev pub unset_after : Setting
unset_after = record {
  program = unset_after_program;
  scalars = scalar.Replicated ∷ [];
  sides = side.Unused ∷ side.Unused ∷ [];
  spaces = spaces_of [] [] (Segments kind.Index 1 1 ∷ []);
  numbers = 0 ∷ [];
  blocks = [];
}

-- where it ends
abbrev pub unset_after_final : Final
unset_after_final = record empty {
  scalars = Some 0 ∷ [];
  partials = 0 ∷ [];
  statics = [] ∷ [] ∷ [];
  distributed = (0 ∷ []) ∷ [];
  epochs = record { distributed = 2; served = 1 };
  accesses = 1;
}

-- how it runs
abbrev pub UnsetAfterRuns : Type 0
UnsetAfterRuns = Run unset_after unset_after_final (Some (Trapped record { kind = trap.UnsetBlock; line = 8 }))
