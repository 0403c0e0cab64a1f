-- Worked program: a read of a block behind a store into it in one epoch, where the two meanings part.
--
--     1  sial stale
--     2  index i = 1, 1
--     3  temp t(i)
--     4  distributed d(i)
--     5  scalar s
--     6  create d
--     7  pardo i
--     8  t(i) = 5
--     9  put d(i) = t(i)
--    10  t(i) = d(i)
--    11  s += t(i) * t(i)
--    12  endpardo i
--    13  endsial stale
--
-- Its input is empty.
use Rattle.std.specs.Prelude.{◌≡◌, ℕ, [], ◌∷◌, codes, Some, None}
use Rattle.sial_syntax.specs.declared.access.Access.TheVariants as access
use Rattle.sial_syntax.specs.declared.access.Class.TheVariants as class
use Rattle.sial_syntax.specs.declared.array.ArrayKind.TheVariants as array
use Rattle.sial_syntax.specs.declared.classes.ScalarClass.TheVariants as scalar
use Rattle.sial_syntax.specs.declared.classes.Side.TheVariants as side
use Rattle.sial_syntax.specs.declared.index.Bound.TheVariants as bound
use Rattle.sial_syntax.specs.declared.index.Kind.TheVariants as kind
use Rattle.sial_syntax.specs.declared.index.Range.TheVariants as range
use Rattle.sial_syntax.specs.declared.operand.Bin.TheVariants as bin
use Rattle.sial_syntax.specs.declared.operand.BlockRef.{BlockRef}
use Rattle.sial_syntax.specs.declared.operand.Op.TheVariants as op
use Rattle.sial_syntax.specs.declared.operand.Operand.TheVariants as operand
use Rattle.sial_syntax.specs.declared.operand.Right.TheVariants.{One, Two}
use Rattle.sial_syntax.specs.declared.operand.Target.TheVariants as target
use Rattle.sial_syntax.specs.Spaces.{Segments}
use Rattle.sial_syntax.specs.Tree.{Tree, End, Then, Pardo, Assign, Put, Create}
use Rattle.sial_meaning.specs.Accepted.{Clashed}
use Rattle.sial_meaning.specs.Setting.{Setting}
use Rattle.sial_worked.specs.Runs.{Final, Run, empty, spaces_of}
use Rattle.sial_meaning.specs.Accepted.{first_refusal, refusal_of}
use Rattle.sial_meaning.specs.Meaning.{by_epochs}
use Rattle.sial_worked.specs.Runs.{final_of}

-- its tree
abbrev pub stale_program : Tree
stale_program =
    let i : ℕ = 0 in
    let t : ℕ = 0 in
    let d : ℕ = 1 in
    let s : ℕ = 0 in
    let t_i : BlockRef = record { array = t; at = i ∷ [] } in
    let d_i : BlockRef = record { array = d; at = i ∷ [] } in
    record {
      name = codes "stale";
      indices = record { name = codes "i"; line = 2; range = range.Segments kind.Index (bound.Number 1) (bound.Number 1) } ∷ [];
      arrays =
          record { name = codes "t"; line = 3; kind = array.Temp; dims = i ∷ [] } ∷
          record { name = codes "d"; line = 4; kind = array.Distributed; dims = i ∷ [] } ∷
          [];
      scalars = codes "s" ∷ [];
      procedures = [];
      body =
          Then 6 (Create d) (
          Then 7 (Pardo (i ∷ []) [] (
          Then 8 (Assign (target.Block t_i) op.Set (One (operand.Number 5))) (
          Then 9 (Put d_i access.Store t_i) (
          Then 10 (Assign (target.Block t_i) op.Set (One (operand.Block d_i))) (
          Then 11 (Assign (target.Scalar s) op.Add (Two (operand.Block t_i) bin.Times (operand.Block t_i))) End))))) End);
    }

-- with its classes and its input
abbrev pub stale : Setting
stale = record {
  program = stale_program;
  scalars = scalar.Partial ∷ [];
  sides = side.Unused ∷ side.Unused ∷ [];
  spaces = spaces_of [] [] (Segments kind.Index 1 1 ∷ []);
  numbers = 0 ∷ [];
  blocks = [];
}

-- where it ends
abbrev pub stale_final : Final
stale_final = record empty {
  scalars = None ∷ [];
  partials = 25 ∷ [];
  statics = [] ∷ [] ∷ [];
  distributed = (5 ∷ []) ∷ [];
  epochs = record { distributed = 2; served = 1 };
  accesses = 2;
}

-- how it runs
abbrev pub StaleRuns : Type 0
StaleRuns =
    Run stale stale_final (Some (Clashed (record {
      class = class.Distributed;
      block = 0;
      epoch = 2;
      clash = record { later = access.Read; later_line = 10; earlier = access.Store; earlier_line = 9 };
    })))

-- where its epoch meaning ends: the read sees the zeros from before the store
abbrev pub stale_epochs_final : Final
stale_epochs_final = record stale_final { partials = 0 ∷ [] }

-- the two meanings part at the clash
pub record StaleByEpochs : Type 0 where
  pub ends : final_of (by_epochs stale) ≡ stale_epochs_final
  pub refused : refusal_of (by_epochs stale) ≡ first_refusal stale
