-- Worked program: local arrays outside and within pardos.
--
--     1  sial rooms
--     2  index i = 1, 2
--     3  index j = 1, 2
--     4  local l(i,j)
--     5  local m(i,j)
--     6  static a(i,j)
--     7  distributed d(i,j)
--     8  do i
--     9  allocate l(i,*)
--    10  do j
--    11  l(i,j) = 5
--    12  l(i,j) += 1
--    13  a(i,j) = l(i,j)
--    14  enddo j
--    15  enddo i
--    16  deallocate l(*,*)
--    17  create d
--    18  pardo i
--    19  allocate m(i,*)
--    20  do j
--    21  m(i,j) += 2
--    22  put d(i,j) = m(i,j)
--    23  enddo j
--    24  endpardo i
--    25  sip_barrier
--    26  pardo i
--    27  allocate m(*,*)
--    28  do j
--    29  put d(i,j) += m(i,j)
--    30  enddo j
--    31  deallocate m(i,*)
--    32  endpardo i
--    33  endsial rooms
--
-- Its input is empty.
use Rattle.std.specs.Prelude.{ℕ, [], ◌∷◌, codes, None}
use Rattle.sial_syntax.specs.declared.access.Access.TheVariants as access
use Rattle.sial_syntax.specs.declared.array.ArrayKind.TheVariants as array
use Rattle.sial_syntax.specs.declared.classes.Side.TheVariants as side
use Rattle.sial_syntax.specs.declared.index.Bound.TheVariants as bound
use Rattle.sial_syntax.specs.declared.index.Kind.TheVariants as kind
use Rattle.sial_syntax.specs.declared.index.Range.TheVariants as range
use Rattle.sial_syntax.specs.declared.operand.BlockRef.{BlockRef}
use Rattle.sial_syntax.specs.declared.operand.Op.TheVariants as op
use Rattle.sial_syntax.specs.declared.operand.Operand.TheVariants as operand
use Rattle.sial_syntax.specs.declared.operand.Right.TheVariants.{One}
use Rattle.sial_syntax.specs.declared.operand.Slot.TheVariants as slot
use Rattle.sial_syntax.specs.declared.operand.Target.TheVariants as target
use Rattle.sial_syntax.specs.Spaces.{Segments}
use Rattle.sial_syntax.specs.Tree.{Tree, End, Then, Do, Pardo, Assign, Put, Create, Allocate, Deallocate, SipBarrier}
use Rattle.sial_meaning.specs.Setting.{Setting}
use Rattle.sial_worked.specs.Runs.{Final, Run, empty, spaces_of}

-- its tree
abbrev pub rooms_program : Tree
rooms_program =
    let i : ℕ = 0 in
    let j : ℕ = 1 in
    let l : ℕ = 0 in
    let m : ℕ = 1 in
    let a : ℕ = 2 in
    let d : ℕ = 3 in
    let l_i_j : BlockRef = record { array = l; at = i ∷ j ∷ [] } in
    let a_i_j : BlockRef = record { array = a; at = i ∷ j ∷ [] } in
    let m_i_j : BlockRef = record { array = m; at = i ∷ j ∷ [] } in
    let d_i_j : BlockRef = record { array = d; at = i ∷ j ∷ [] } in
    record {
      name = codes "rooms";
      indices =
          record { name = codes "i"; line = 2; range = range.Segments kind.Index (bound.Number 1) (bound.Number 2) } ∷
          record { name = codes "j"; line = 3; range = range.Segments kind.Index (bound.Number 1) (bound.Number 2) } ∷
          [];
      arrays =
          record { name = codes "l"; line = 4; kind = array.Local; dims = i ∷ j ∷ [] } ∷
          record { name = codes "m"; line = 5; kind = array.Local; dims = i ∷ j ∷ [] } ∷
          record { name = codes "a"; line = 6; kind = array.Static; dims = i ∷ j ∷ [] } ∷
          record { name = codes "d"; line = 7; kind = array.Distributed; dims = i ∷ j ∷ [] } ∷
          [];
      scalars = [];
      procedures = [];
      body =
          Then 8 (Do i (
          Then 9 (Allocate l (slot.At i ∷ slot.All ∷ [])) (
          Then 10 (Do j (
          Then 11 (Assign (target.Block l_i_j) op.Set (One (operand.Number 5))) (
          Then 12 (Assign (target.Block l_i_j) op.Add (One (operand.Number 1))) (
          Then 13 (Assign (target.Block a_i_j) op.Set (One (operand.Block l_i_j))) End)))) End))) (
          Then 16 (Deallocate l (slot.All ∷ slot.All ∷ [])) (
          Then 17 (Create d) (
          Then 18 (Pardo (i ∷ []) [] (
          Then 19 (Allocate m (slot.At i ∷ slot.All ∷ [])) (
          Then 20 (Do j (
          Then 21 (Assign (target.Block m_i_j) op.Add (One (operand.Number 2))) (
          Then 22 (Put d_i_j access.Store m_i_j) End))) End))) (
          Then 25 SipBarrier (
          Then 26 (Pardo (i ∷ []) [] (
          Then 27 (Allocate m (slot.All ∷ slot.All ∷ [])) (
          Then 28 (Do j (
          Then 29 (Put d_i_j access.Add m_i_j) End)) (
          Then 31 (Deallocate m (slot.At i ∷ slot.All ∷ [])) End)))) End)))));
    }

-- with its classes and its input
abbrev pub rooms : Setting
rooms = record {
  program = rooms_program;
  scalars = [];
  sides = side.Outer ∷ side.Inner ∷ side.Unused ∷ side.Unused ∷ [];
  spaces = spaces_of [] [] (Segments kind.Index 1 2 ∷ Segments kind.Index 1 2 ∷ []);
  numbers = [];
  blocks = [];
}

-- where it ends
abbrev pub rooms_final : Final
rooms_final = record empty {
  statics = [] ∷ [] ∷ ((6 ∷ []) ∷ (6 ∷ []) ∷ (6 ∷ []) ∷ (6 ∷ []) ∷ []) ∷ [] ∷ [];
  distributed = (2 ∷ []) ∷ (2 ∷ []) ∷ (2 ∷ []) ∷ (2 ∷ []) ∷ [];
  epochs = record { distributed = 3; served = 1 };
  accesses = 8;
}

-- how it runs
abbrev pub RoomsRuns : Type 0
RoomsRuns = Run rooms rooms_final None
