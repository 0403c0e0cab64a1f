-- Worked program: two pardos, a contraction, a collected sum and a loop outside.
--
--     1  sial small
--     2  aoindex m = 1, 2
--     3  aoindex l = 1, 2
--     4  moindex i = 1, 2
--     5  temp v(m,l)
--     6  temp a(l,i)
--     7  temp p(m,i)
--     8  temp q(m,i)
--     9  distributed t(l,i)
--    10  distributed r(m,i)
--    11  static one(m,i)
--    12  scalar esum
--    13  scalar e
--    14  scalar s
--    15  create t
--    16  create r
--    17  pardo l, i
--    18  execute compute_integrals a(l,i)
--    19  put t(l,i) = a(l,i)
--    20  endpardo l, i
--    21  sip_barrier
--    22  pardo m, i
--    23  p(m,i) = 0
--    24  do l
--    25  get t(l,i)
--    26  execute compute_integrals v(m,l)
--    27  q(m,i) = v(m,l) * t(l,i)
--    28  p(m,i) += q(m,i)
--    29  enddo l
--    30  put r(m,i) = p(m,i)
--    31  esum += p(m,i) * p(m,i)
--    32  endpardo m, i
--    33  sip_barrier
--    34  collective e += esum
--    35  do m
--    36  do i
--    37  one(m,i) = 1
--    38  s = r(m,i) * one(m,i)
--    39  execute print_scalar s
--    40  enddo i
--    41  enddo m
--    42  execute print_scalar e
--    43  endsial small
--
-- Its input:
--        segments ao 1 1
--        segments mo 1 1
use Rattle.std.specs.Prelude.{ℕ, [], ◌∷◌, codes, Some, None}
use Rattle.sial_syntax.specs.declared.access.Access.TheVariants as access
use Rattle.sial_syntax.specs.declared.array.ArrayKind.TheVariants as array
use Rattle.sial_syntax.specs.declared.classes.ScalarClass.TheVariants as scalar
use Rattle.sial_syntax.specs.declared.classes.Side.TheVariants as side
use Rattle.sial_syntax.specs.declared.index.Bound.TheVariants as bound
use Rattle.sial_syntax.specs.declared.index.Kind.TheVariants as kind
use Rattle.sial_syntax.specs.declared.index.Range.TheVariants as range
use Rattle.sial_syntax.specs.declared.operand.Bin.TheVariants as bin
use Rattle.sial_syntax.specs.declared.operand.BlockRef.{BlockRef}
use Rattle.sial_syntax.specs.declared.operand.Op.TheVariants as op
use Rattle.sial_syntax.specs.declared.operand.Operand.TheVariants as operand
use Rattle.sial_syntax.specs.declared.operand.Right.TheVariants.{One, Two}
use Rattle.sial_syntax.specs.declared.operand.Target.TheVariants as target
use Rattle.sial_syntax.specs.Spaces.{Segments}
use Rattle.sial_syntax.specs.Tree.{Tree, End, Then, Do, Pardo, Assign, Get, Put, Create, Collective, SipBarrier, PrintScalar, Integrals}
use Rattle.sial_meaning.specs.Setting.{Setting}
use Rattle.sial_worked.specs.Runs.{Final, Run, empty, spaces_of}
use Rattle.sial_syntax.specs.Proper.{IsProper}

-- its tree
abbrev pub small_program : Tree
small_program =
    let m : ℕ = 0 in
    let l : ℕ = 1 in
    let i : ℕ = 2 in
    let v : ℕ = 0 in
    let a : ℕ = 1 in
    let p : ℕ = 2 in
    let q : ℕ = 3 in
    let t : ℕ = 4 in
    let r : ℕ = 5 in
    let one : ℕ = 6 in
    let esum : ℕ = 0 in
    let e : ℕ = 1 in
    let s : ℕ = 2 in
    let a_l_i : BlockRef = record { array = a; at = l ∷ i ∷ [] } in
    let t_l_i : BlockRef = record { array = t; at = l ∷ i ∷ [] } in
    let p_m_i : BlockRef = record { array = p; at = m ∷ i ∷ [] } in
    let v_m_l : BlockRef = record { array = v; at = m ∷ l ∷ [] } in
    let q_m_i : BlockRef = record { array = q; at = m ∷ i ∷ [] } in
    let r_m_i : BlockRef = record { array = r; at = m ∷ i ∷ [] } in
    let one_m_i : BlockRef = record { array = one; at = m ∷ i ∷ [] } in
    record {
      name = codes "small";
      indices =
          record { name = codes "m"; line = 2; range = range.Segments kind.Ao (bound.Number 1) (bound.Number 2) } ∷
          record { name = codes "l"; line = 3; range = range.Segments kind.Ao (bound.Number 1) (bound.Number 2) } ∷
          record { name = codes "i"; line = 4; range = range.Segments kind.Mo (bound.Number 1) (bound.Number 2) } ∷
          [];
      arrays =
          record { name = codes "v"; line = 5; kind = array.Temp; dims = m ∷ l ∷ [] } ∷
          record { name = codes "a"; line = 6; kind = array.Temp; dims = l ∷ i ∷ [] } ∷
          record { name = codes "p"; line = 7; kind = array.Temp; dims = m ∷ i ∷ [] } ∷
          record { name = codes "q"; line = 8; kind = array.Temp; dims = m ∷ i ∷ [] } ∷
          record { name = codes "t"; line = 9; kind = array.Distributed; dims = l ∷ i ∷ [] } ∷
          record { name = codes "r"; line = 10; kind = array.Distributed; dims = m ∷ i ∷ [] } ∷
          record { name = codes "one"; line = 11; kind = array.Static; dims = m ∷ i ∷ [] } ∷
          [];
      scalars = codes "esum" ∷ codes "e" ∷ codes "s" ∷ [];
      procedures = [];
      body =
          Then 15 (Create t) (
          Then 16 (Create r) (
          Then 17 (Pardo (l ∷ i ∷ []) [] (
          Then 18 (Integrals a_l_i) (
          Then 19 (Put t_l_i access.Store a_l_i) End))) (
          Then 21 SipBarrier (
          Then 22 (Pardo (m ∷ i ∷ []) [] (
          Then 23 (Assign (target.Block p_m_i) op.Set (One (operand.Number 0))) (
          Then 24 (Do l (
          Then 25 (Get t_l_i) (
          Then 26 (Integrals v_m_l) (
          Then 27 (Assign (target.Block q_m_i) op.Set (Two (operand.Block v_m_l) bin.Times (operand.Block t_l_i))) (
          Then 28 (Assign (target.Block p_m_i) op.Add (One (operand.Block q_m_i))) End))))) (
          Then 30 (Put r_m_i access.Store p_m_i) (
          Then 31 (Assign (target.Scalar esum) op.Add (Two (operand.Block p_m_i) bin.Times (operand.Block p_m_i))) End))))) (
          Then 33 SipBarrier (
          Then 34 (Collective e esum) (
          Then 35 (Do m (
          Then 36 (Do i (
          Then 37 (Assign (target.Block one_m_i) op.Set (One (operand.Number 1))) (
          Then 38 (Assign (target.Scalar s) op.Set (Two (operand.Block r_m_i) bin.Times (operand.Block one_m_i))) (
          Then 39 (PrintScalar s) End)))) End)) (
          Then 42 (PrintScalar e) End))))))));
    }

-- with its classes and its input
abbrev pub small : Setting
small = record {
  program = small_program;
  scalars = scalar.Partial ∷ scalar.Replicated ∷ scalar.Replicated ∷ [];
  sides = side.Unused ∷ side.Unused ∷ side.Unused ∷ side.Unused ∷ side.Unused ∷ side.Unused ∷ side.Unused ∷ [];
  spaces = spaces_of (1 ∷ 1 ∷ []) (1 ∷ 1 ∷ []) (Segments kind.Ao 1 2 ∷ Segments kind.Ao 1 2 ∷ Segments kind.Mo 1 2 ∷ []);
  numbers = 0 ∷ 0 ∷ 0 ∷ [];
  blocks = [];
}

-- where it ends
abbrev pub small_final : Final
small_final = record empty {
  scalars = None ∷ Some 23058 ∷ Some 99 ∷ [];
  partials = 23058 ∷ 0 ∷ 0 ∷ [];
  statics = [] ∷ [] ∷ [] ∷ [] ∷ [] ∷ [] ∷ ((1 ∷ []) ∷ (1 ∷ []) ∷ (1 ∷ []) ∷ (1 ∷ []) ∷ []) ∷ [];
  distributed = (4 ∷ []) ∷ (7 ∷ []) ∷ (5 ∷ []) ∷ (8 ∷ []) ∷ (51 ∷ []) ∷ (84 ∷ []) ∷ (60 ∷ []) ∷ (99 ∷ []) ∷ [];
  epochs = record { distributed = 5; served = 1 };
  accesses = 28;
  lines = codes "s 51" ∷ codes "s 84" ∷ codes "s 60" ∷ codes "s 99" ∷ codes "e 23058" ∷ [];
}

-- how it runs
abbrev pub SmallRuns : Type 0
SmallRuns = Run small small_final None

-- its tree is proper
abbrev pub SmallIsProper : Type 0
SmallIsProper = IsProper small.program
