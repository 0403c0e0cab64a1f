-- Worked program: an operand of an array that isn't created, beside a temp that isn't set.
--
--     1  sial missing
--     2  index i = 1, 1
--     3  temp t(i)
--     4  distributed d(i)
--     5  scalar x
--     6  do i
--     7  x = t(i) * d(i)
--     8  enddo i
--     9  endsial missing
--
-- Its input is empty.
use Rattle.std.specs.Prelude.{ℕ, [], ◌∷◌, codes, Some}
use Rattle.sial_syntax.specs.declared.array.ArrayKind.TheVariants as array
use Rattle.sial_syntax.specs.declared.classes.ScalarClass.TheVariants as scalar
use Rattle.sial_syntax.specs.declared.classes.Side.TheVariants as side
use Rattle.sial_syntax.specs.declared.index.Bound.TheVariants as bound
use Rattle.sial_syntax.specs.declared.index.Kind.TheVariants as kind
use Rattle.sial_syntax.specs.declared.index.Range.TheVariants as range
use Rattle.sial_syntax.specs.declared.operand.Bin.TheVariants as bin
use Rattle.sial_syntax.specs.declared.operand.BlockRef.{BlockRef}
use Rattle.sial_syntax.specs.declared.operand.Op.TheVariants as op
use Rattle.sial_syntax.specs.declared.operand.Operand.TheVariants as operand
use Rattle.sial_syntax.specs.declared.operand.Right.TheVariants.{Two}
use Rattle.sial_syntax.specs.declared.operand.Target.TheVariants as target
use Rattle.sial_syntax.specs.Spaces.{Segments}
use Rattle.sial_syntax.specs.Tree.{Tree, End, Then, Do, Assign}
use Rattle.sial_meaning.specs.declared.trap.TrapKind.TheVariants as trap
use Rattle.sial_meaning.specs.Accepted.{Trapped}
use Rattle.sial_meaning.specs.Setting.{Setting}
use Rattle.sial_worked.specs.Runs.{Final, Run, empty, spaces_of}

-- its tree
abbrev pub missing_program : Tree
missing_program =
    let i : ℕ = 0 in
    let t : ℕ = 0 in
    let d : ℕ = 1 in
    let x : ℕ = 0 in
    let t_i : BlockRef = record { array = t; at = i ∷ [] } in
    let d_i : BlockRef = record { array = d; at = i ∷ [] } in
    record {
      name = codes "missing";
      indices = record { name = codes "i"; line = 2; range = range.Segments kind.Index (bound.Number 1) (bound.Number 1) } ∷ [];
      arrays =
          record { name = codes "t"; line = 3; kind = array.Temp; dims = i ∷ [] } ∷
          record { name = codes "d"; line = 4; kind = array.Distributed; dims = i ∷ [] } ∷
          [];
      scalars = codes "x" ∷ [];
      procedures = [];
      body =
          Then 6 (Do i (
          Then 7 (Assign (target.Scalar x) op.Set (Two (operand.Block t_i) bin.Times (operand.Block d_i))) End)) End;
    }

-- with its classes and its input
abbrev pub missing : Setting
missing = record {
  program = missing_program;
  scalars = scalar.Replicated ∷ [];
  sides = side.Unused ∷ side.Unused ∷ [];
  spaces = spaces_of [] [] (Segments kind.Index 1 1 ∷ []);
  numbers = 0 ∷ [];
  blocks = [];
}

-- where it ends
abbrev pub missing_final : Final
missing_final = record empty {
  scalars = Some 0 ∷ [];
  partials = 0 ∷ [];
  statics = [] ∷ [] ∷ [];
  distributed = [] ∷ [];
}

-- how it runs
abbrev pub MissingRuns : Type 0
MissingRuns = Run missing missing_final (Some (Trapped record { kind = trap.NotCreated; line = 7 }))
