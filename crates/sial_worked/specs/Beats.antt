-- Worked program: a store into the same blocks in each turn of a loop, with a barrier at its end.
--
--     1  sial beats
--     2  index k = 1, 3
--     3  index i = 1, 2
--     4  temp t(i)
--     5  distributed d(i)
--     6  create d
--     7  do k
--     8  pardo i
--     9  t(i) = 2
--    10  put d(i) = t(i)
--    11  endpardo i
--    12  sip_barrier
--    13  enddo k
--    14  endsial beats
--
-- Its input is empty.
use Rattle.std.specs.Prelude.{ℕ, [], ◌∷◌, codes, None}
use Rattle.sial_syntax.specs.declared.access.Access.TheVariants as access
use Rattle.sial_syntax.specs.declared.array.ArrayKind.TheVariants as array
use Rattle.sial_syntax.specs.declared.classes.Side.TheVariants as side
use Rattle.sial_syntax.specs.declared.index.Bound.TheVariants as bound
use Rattle.sial_syntax.specs.declared.index.Kind.TheVariants as kind
use Rattle.sial_syntax.specs.declared.index.Range.TheVariants as range
use Rattle.sial_syntax.specs.declared.operand.BlockRef.{BlockRef}
use Rattle.sial_syntax.specs.declared.operand.Op.TheVariants as op
use Rattle.sial_syntax.specs.declared.operand.Operand.TheVariants as operand
use Rattle.sial_syntax.specs.declared.operand.Right.TheVariants.{One}
use Rattle.sial_syntax.specs.declared.operand.Target.TheVariants as target
use Rattle.sial_syntax.specs.Spaces.{Segments}
use Rattle.sial_syntax.specs.Tree.{Tree, End, Then, Do, Pardo, Assign, Put, Create, SipBarrier}
use Rattle.sial_meaning.specs.Setting.{Setting}
use Rattle.sial_worked.specs.Runs.{Final, Run, empty, spaces_of}

-- its tree
abbrev pub beats_program : Tree
beats_program =
    let k : ℕ = 0 in
    let i : ℕ = 1 in
    let t : ℕ = 0 in
    let d : ℕ = 1 in
    let t_i : BlockRef = record { array = t; at = i ∷ [] } in
    let d_i : BlockRef = record { array = d; at = i ∷ [] } in
    record {
      name = codes "beats";
      indices =
          record { name = codes "k"; line = 2; range = range.Segments kind.Index (bound.Number 1) (bound.Number 3) } ∷
          record { name = codes "i"; line = 3; range = range.Segments kind.Index (bound.Number 1) (bound.Number 2) } ∷
          [];
      arrays =
          record { name = codes "t"; line = 4; kind = array.Temp; dims = i ∷ [] } ∷
          record { name = codes "d"; line = 5; kind = array.Distributed; dims = i ∷ [] } ∷
          [];
      scalars = [];
      procedures = [];
      body =
          Then 6 (Create d) (
          Then 7 (Do k (
          Then 8 (Pardo (i ∷ []) [] (
          Then 9 (Assign (target.Block t_i) op.Set (One (operand.Number 2))) (
          Then 10 (Put d_i access.Store t_i) End))) (
          Then 12 SipBarrier End))) End);
    }

-- with its classes and its input
abbrev pub beats : Setting
beats = record {
  program = beats_program;
  scalars = [];
  sides = side.Unused ∷ side.Unused ∷ [];
  spaces = spaces_of [] [] (Segments kind.Index 1 3 ∷ Segments kind.Index 1 2 ∷ []);
  numbers = [];
  blocks = [];
}

-- where it ends
abbrev pub beats_final : Final
beats_final = record empty {
  statics = [] ∷ [] ∷ [];
  distributed = (2 ∷ []) ∷ (2 ∷ []) ∷ [];
  epochs = record { distributed = 5; served = 1 };
  accesses = 6;
}

-- how it runs
abbrev pub BeatsRuns : Type 0
BeatsRuns = Run beats beats_final None
