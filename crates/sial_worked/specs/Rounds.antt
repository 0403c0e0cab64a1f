-- Worked program: a pardo and a barrier inside a procedure that is called twice.
--
--     1  sial rounds
--     2  index i = 1, 2
--     3  temp t(i)
--     4  distributed d(i)
--     5  proc round
--     6  pardo i
--     7  t(i) = 3
--     8  put d(i) += t(i)
--     9  endpardo i
--    10  sip_barrier
--    11  endproc round
--    12  create d
--    13  call round
--    14  call round
--    15  endsial rounds
--
-- Its input is empty.
use Rattle.std.specs.Prelude.{ℕ, [], ◌∷◌, codes, None}
use Rattle.sial_syntax.specs.declared.access.Access.TheVariants as access
use Rattle.sial_syntax.specs.declared.array.ArrayKind.TheVariants as array
use Rattle.sial_syntax.specs.declared.classes.Side.TheVariants as side
use Rattle.sial_syntax.specs.declared.index.Bound.TheVariants as bound
use Rattle.sial_syntax.specs.declared.index.Kind.TheVariants as kind
use Rattle.sial_syntax.specs.declared.index.Range.TheVariants as range
use Rattle.sial_syntax.specs.declared.operand.BlockRef.{BlockRef}
use Rattle.sial_syntax.specs.declared.operand.Op.TheVariants as op
use Rattle.sial_syntax.specs.declared.operand.Operand.TheVariants as operand
use Rattle.sial_syntax.specs.declared.operand.Right.TheVariants.{One}
use Rattle.sial_syntax.specs.declared.operand.Target.TheVariants as target
use Rattle.sial_syntax.specs.Spaces.{Segments}
use Rattle.sial_syntax.specs.Tree.{Tree, End, Then, Pardo, Call, Assign, Put, Create, SipBarrier}
use Rattle.sial_meaning.specs.Setting.{Setting}
use Rattle.sial_worked.specs.Runs.{Final, Run, empty, spaces_of}

-- its tree
abbrev pub rounds_program : Tree
rounds_program =
    let i : ℕ = 0 in
    let t : ℕ = 0 in
    let d : ℕ = 1 in
    let round : ℕ = 0 in
    let t_i : BlockRef = record { array = t; at = i ∷ [] } in
    let d_i : BlockRef = record { array = d; at = i ∷ [] } in
    record {
      name = codes "rounds";
      indices = record { name = codes "i"; line = 2; range = range.Segments kind.Index (bound.Number 1) (bound.Number 2) } ∷ [];
      arrays =
          record { name = codes "t"; line = 3; kind = array.Temp; dims = i ∷ [] } ∷
          record { name = codes "d"; line = 4; kind = array.Distributed; dims = i ∷ [] } ∷
          [];
      scalars = [];
      procedures =
          record {
            name = codes "round";
            body =
                Then 6 (Pardo (i ∷ []) [] (
                Then 7 (Assign (target.Block t_i) op.Set (One (operand.Number 3))) (
                Then 8 (Put d_i access.Add t_i) End))) (
                Then 10 SipBarrier End);
          } ∷
          [];
      body =
          Then 12 (Create d) (
          Then 13 (Call round) (
          Then 14 (Call round) End));
    }

-- with its classes and its input
abbrev pub rounds : Setting
rounds = record {
  program = rounds_program;
  scalars = [];
  sides = side.Unused ∷ side.Unused ∷ [];
  spaces = spaces_of [] [] (Segments kind.Index 1 2 ∷ []);
  numbers = [];
  blocks = [];
}

-- where it ends
abbrev pub rounds_final : Final
rounds_final = record empty {
  statics = [] ∷ [] ∷ [];
  distributed = (6 ∷ []) ∷ (6 ∷ []) ∷ [];
  epochs = record { distributed = 4; served = 1 };
  accesses = 4;
}

-- how it runs
abbrev pub RoundsRuns : Type 0
RoundsRuns = Run rounds rounds_final None
