-- Worked program: a read and an add with a barrier between, with none, or with one of the other class.
--
--     1  sial order
--     2  index i = 1, 1
--     3  temp t(i)
--     4  distributed d(i)
--     5  create d
--     6  pardo i
--     7  get d(i)
--     8  endpardo i
--     9  sip_barrier
--    10  pardo i
--    11  t(i) = 1
--    12  put d(i) += t(i)
--    13  endpardo i
--    14  endsial order
--
-- Its input is empty.
use Rattle.std.specs.Prelude.{ℕ, [], ◌∷◌, codes, Some, None}
use Rattle.sial_syntax.specs.declared.access.Access.TheVariants as access
use Rattle.sial_syntax.specs.declared.access.Class.TheVariants as class
use Rattle.sial_syntax.specs.declared.array.ArrayKind.TheVariants as array
use Rattle.sial_syntax.specs.declared.classes.Side.TheVariants as side
use Rattle.sial_syntax.specs.declared.index.Bound.TheVariants as bound
use Rattle.sial_syntax.specs.declared.index.Kind.TheVariants as kind
use Rattle.sial_syntax.specs.declared.index.Range.TheVariants as range
use Rattle.sial_syntax.specs.declared.operand.BlockRef.{BlockRef}
use Rattle.sial_syntax.specs.declared.operand.Op.TheVariants as op
use Rattle.sial_syntax.specs.declared.operand.Operand.TheVariants as operand
use Rattle.sial_syntax.specs.declared.operand.Right.TheVariants.{One}
use Rattle.sial_syntax.specs.declared.operand.Target.TheVariants as target
use Rattle.sial_syntax.specs.Spaces.{Segments}
use Rattle.sial_syntax.specs.Tree.{Tree, Block, End, Then, Pardo, Assign, Get, Put, Create, SipBarrier, ServerBarrier}
use Rattle.sial_meaning.specs.Accepted.{Clashed}
use Rattle.sial_meaning.specs.Setting.{Setting}
use Rattle.sial_worked.specs.Runs.{Final, Run, empty, spaces_of}

-- its tree, with this before what follows line 9
abbrev pub order_program : (between : Block → Block) → Tree
order_program between =
    let i : ℕ = 0 in
    let t : ℕ = 0 in
    let d : ℕ = 1 in
    let d_i : BlockRef = record { array = d; at = i ∷ [] } in
    let t_i : BlockRef = record { array = t; at = i ∷ [] } in
    record {
      name = codes "order";
      indices = record { name = codes "i"; line = 2; range = range.Segments kind.Index (bound.Number 1) (bound.Number 1) } ∷ [];
      arrays =
          record { name = codes "t"; line = 3; kind = array.Temp; dims = i ∷ [] } ∷
          record { name = codes "d"; line = 4; kind = array.Distributed; dims = i ∷ [] } ∷
          [];
      scalars = [];
      procedures = [];
      body =
          Then 5 (Create d) (
          Then 6 (Pardo (i ∷ []) [] (
          Then 7 (Get d_i) End)) (
          between (
          Then 10 (Pardo (i ∷ []) [] (
          Then 11 (Assign (target.Block t_i) op.Set (One (operand.Number 1))) (
          Then 12 (Put d_i access.Add t_i) End))) End)));
    }

-- with its classes and its input
abbrev pub order : Setting
order = record {
  program = order_program (Then 9 SipBarrier);
  scalars = [];
  sides = side.Unused ∷ side.Unused ∷ [];
  spaces = spaces_of [] [] (Segments kind.Index 1 1 ∷ []);
  numbers = [];
  blocks = [];
}

-- where it ends
abbrev pub order_final : Final
order_final = record empty {
  statics = [] ∷ [] ∷ [];
  distributed = (1 ∷ []) ∷ [];
  epochs = record { distributed = 3; served = 1 };
  accesses = 2;
}

-- how it runs
abbrev pub OrderRuns : Type 0
OrderRuns = Run order order_final None

-- the same with line 9 empty
abbrev pub order_open : Setting
order_open = record order { program = order_program (λ rest. rest) }

-- where it ends
abbrev pub order_open_final : Final
order_open_final = record order_final { epochs = record { distributed = 2; served = 1 } }

-- how it runs
abbrev pub OrderOpenRuns : Type 0
OrderOpenRuns =
    Run order_open order_open_final (Some (Clashed (record {
      class = class.Distributed;
      block = 0;
      epoch = 2;
      clash = record { later = access.Add; later_line = 12; earlier = access.Read; earlier_line = 7 };
    })))

-- the same with `server_barrier` in line 9
abbrev pub order_served : Setting
order_served = record order { program = order_program (Then 9 ServerBarrier) }

-- where it ends
abbrev pub order_served_final : Final
order_served_final = record order_final { epochs = record { distributed = 2; served = 2 } }

-- how it runs
abbrev pub OrderServedRuns : Type 0
OrderServedRuns =
    Run order_served order_served_final (Some (Clashed (record {
      class = class.Distributed;
      block = 0;
      epoch = 2;
      clash = record { later = access.Add; later_line = 12; earlier = access.Read; earlier_line = 7 };
    })))
