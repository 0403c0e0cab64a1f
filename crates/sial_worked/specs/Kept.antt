-- Worked program: a temp that an iteration before has set.
--
--     1  sial kept
--     2  index i = 1, 2
--     3  index j = 1, 1
--     4  temp t(j)
--     5  distributed d(j)
--     6  create d
--     7  pardo i
--     8  do j
--     9  if i == 1
--    10  t(j) = 1
--    11  endif
--    12  put d(j) += t(j)
--    13  enddo j
--    14  endpardo i
--    15  endsial kept
--
-- Its input is empty.
use Rattle.std.specs.Prelude.{ℕ, [], ◌∷◌, codes, Some}
use Rattle.sial_syntax.specs.declared.access.Access.TheVariants as access
use Rattle.sial_syntax.specs.declared.array.ArrayKind.TheVariants as array
use Rattle.sial_syntax.specs.declared.classes.Side.TheVariants as side
use Rattle.sial_syntax.specs.declared.condition.Test.TheVariants as test
use Rattle.sial_syntax.specs.declared.condition.Value.TheVariants as value
use Rattle.sial_syntax.specs.declared.index.Bound.TheVariants as bound
use Rattle.sial_syntax.specs.declared.index.Kind.TheVariants as kind
use Rattle.sial_syntax.specs.declared.index.Range.TheVariants as range
use Rattle.sial_syntax.specs.declared.operand.BlockRef.{BlockRef}
use Rattle.sial_syntax.specs.declared.operand.Op.TheVariants as op
use Rattle.sial_syntax.specs.declared.operand.Operand.TheVariants as operand
use Rattle.sial_syntax.specs.declared.operand.Right.TheVariants.{One}
use Rattle.sial_syntax.specs.declared.operand.Target.TheVariants as target
use Rattle.sial_syntax.specs.Spaces.{Segments}
use Rattle.sial_syntax.specs.Tree.{Tree, End, Then, Do, Pardo, If, Assign, Put, Create}
use Rattle.sial_meaning.specs.declared.trap.TrapKind.TheVariants as trap
use Rattle.sial_meaning.specs.Accepted.{Trapped}
use Rattle.sial_meaning.specs.Setting.{Setting}
use Rattle.sial_worked.specs.Runs.{Final, Run, empty, spaces_of}

-- its tree
abbrev pub kept_program : Tree
kept_program =
    let i : ℕ = 0 in
    let j : ℕ = 1 in
    let t : ℕ = 0 in
    let d : ℕ = 1 in
    let t_j : BlockRef = record { array = t; at = j ∷ [] } in
    let d_j : BlockRef = record { array = d; at = j ∷ [] } in
    record {
      name = codes "kept";
      indices =
          record { name = codes "i"; line = 2; range = range.Segments kind.Index (bound.Number 1) (bound.Number 2) } ∷
          record { name = codes "j"; line = 3; range = range.Segments kind.Index (bound.Number 1) (bound.Number 1) } ∷
          [];
      arrays =
          record { name = codes "t"; line = 4; kind = array.Temp; dims = j ∷ [] } ∷
          record { name = codes "d"; line = 5; kind = array.Distributed; dims = j ∷ [] } ∷
          [];
      scalars = [];
      procedures = [];
      body =
          Then 6 (Create d) (
          Then 7 (Pardo (i ∷ []) [] (
          Then 8 (Do j (
          Then 9 (If (record { left = value.Index i; test = test.Equal; right = value.Number 1 }) (
          Then 10 (Assign (target.Block t_j) op.Set (One (operand.Number 1))) End)) (
          Then 12 (Put d_j access.Add t_j) End))) End)) End);
    }

-- with its classes and its input
abbrev pub kept : Setting
kept = record {
  program = kept_program;
  scalars = [];
  sides = side.Unused ∷ side.Unused ∷ [];
  spaces = spaces_of [] [] (Segments kind.Index 1 2 ∷ Segments kind.Index 1 1 ∷ []);
  numbers = [];
  blocks = [];
}

-- where it ends
abbrev pub kept_final : Final
kept_final = record empty {
  statics = [] ∷ [] ∷ [];
  distributed = (1 ∷ []) ∷ [];
  epochs = record { distributed = 2; served = 1 };
  accesses = 1;
}

-- how it runs
abbrev pub KeptRuns : Type 0
KeptRuns = Run kept kept_final (Some (Trapped record { kind = trap.UnsetBlock; line = 12 }))
