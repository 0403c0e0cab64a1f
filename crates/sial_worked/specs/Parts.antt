-- Worked program: slices and insertions of pieces, also where a block has an index beside a part of it.
--
--     1  sial parts
--     2  moindex i = 1, 2
--     3  moindex k = 1, 1
--     4  subindex ii of i
--     5  subindex jj of i
--     6  temp w(i,k)
--     7  temp t(ii,k)
--     8  temp s(ii,i)
--     9  temp u(ii,jj)
--    10  static a(i,k)
--    11  scalar x
--    12  do i
--    13  do k
--    14  execute compute_integrals w(i,k)
--    15  a(i,k) = w(i,k)
--    16  do ii in i
--    17  t(ii,k) = w(i,k)
--    18  t(ii,k) *= 2
--    19  a(i,k) = t(ii,k)
--    20  w(i,k) += t(ii,k)
--    21  execute compute_integrals s(ii,i)
--    22  do jj in i
--    23  u(ii,jj) = s(ii,i)
--    24  x = u(ii,jj) * u(ii,jj)
--    25  execute print_scalar x
--    26  enddo jj
--    27  enddo ii
--    28  x = w(i,k) * w(i,k)
--    29  execute print_scalar x
--    30  enddo k
--    31  enddo i
--    32  endsial parts
--
-- Its input:
--        segments mo 3 2
--        subsegment mo 2
use Rattle.std.specs.Prelude.{ℕ, [], ◌∷◌, codes, Some, None}
use Rattle.sial_syntax.specs.declared.array.ArrayKind.TheVariants as array
use Rattle.sial_syntax.specs.declared.classes.ScalarClass.TheVariants as scalar
use Rattle.sial_syntax.specs.declared.classes.Side.TheVariants as side
use Rattle.sial_syntax.specs.declared.index.Bound.TheVariants as bound
use Rattle.sial_syntax.specs.declared.index.Kind.TheVariants as kind
use Rattle.sial_syntax.specs.declared.index.Range.TheVariants as range
use Rattle.sial_syntax.specs.declared.operand.Bin.TheVariants as bin
use Rattle.sial_syntax.specs.declared.operand.BlockRef.{BlockRef}
use Rattle.sial_syntax.specs.declared.operand.Op.TheVariants as op
use Rattle.sial_syntax.specs.declared.operand.Operand.TheVariants as operand
use Rattle.sial_syntax.specs.declared.operand.Right.TheVariants.{One, Two}
use Rattle.sial_syntax.specs.declared.operand.Target.TheVariants as target
use Rattle.sial_syntax.specs.Spaces.{Segments, Pieces}
use Rattle.sial_syntax.specs.Tree.{Tree, End, Then, Do, DoIn, Assign, PrintScalar, Integrals}
use Rattle.sial_meaning.specs.Setting.{Setting}
use Rattle.sial_worked.specs.Runs.{Final, Run, empty, cut_spaces}

-- its tree
abbrev pub parts_program : Tree
parts_program =
    let i : ℕ = 0 in
    let k : ℕ = 1 in
    let ii : ℕ = 2 in
    let jj : ℕ = 3 in
    let w : ℕ = 0 in
    let t : ℕ = 1 in
    let s : ℕ = 2 in
    let u : ℕ = 3 in
    let a : ℕ = 4 in
    let x : ℕ = 0 in
    let w_i_k : BlockRef = record { array = w; at = i ∷ k ∷ [] } in
    let a_i_k : BlockRef = record { array = a; at = i ∷ k ∷ [] } in
    let t_ii_k : BlockRef = record { array = t; at = ii ∷ k ∷ [] } in
    let s_ii_i : BlockRef = record { array = s; at = ii ∷ i ∷ [] } in
    let u_ii_jj : BlockRef = record { array = u; at = ii ∷ jj ∷ [] } in
    record {
      name = codes "parts";
      indices =
          record { name = codes "i"; line = 2; range = range.Segments kind.Mo (bound.Number 1) (bound.Number 2) } ∷
          record { name = codes "k"; line = 3; range = range.Segments kind.Mo (bound.Number 1) (bound.Number 1) } ∷
          record { name = codes "ii"; line = 4; range = range.Sub i } ∷
          record { name = codes "jj"; line = 5; range = range.Sub i } ∷
          [];
      arrays =
          record { name = codes "w"; line = 6; kind = array.Temp; dims = i ∷ k ∷ [] } ∷
          record { name = codes "t"; line = 7; kind = array.Temp; dims = ii ∷ k ∷ [] } ∷
          record { name = codes "s"; line = 8; kind = array.Temp; dims = ii ∷ i ∷ [] } ∷
          record { name = codes "u"; line = 9; kind = array.Temp; dims = ii ∷ jj ∷ [] } ∷
          record { name = codes "a"; line = 10; kind = array.Static; dims = i ∷ k ∷ [] } ∷
          [];
      scalars = codes "x" ∷ [];
      procedures = [];
      body =
          Then 12 (Do i (
          Then 13 (Do k (
          Then 14 (Integrals w_i_k) (
          Then 15 (Assign (target.Block a_i_k) op.Set (One (operand.Block w_i_k))) (
          Then 16 (DoIn ii i (
          Then 17 (Assign (target.Block t_ii_k) op.Set (One (operand.Block w_i_k))) (
          Then 18 (Assign (target.Block t_ii_k) op.Scale (One (operand.Number 2))) (
          Then 19 (Assign (target.Block a_i_k) op.Set (One (operand.Block t_ii_k))) (
          Then 20 (Assign (target.Block w_i_k) op.Add (One (operand.Block t_ii_k))) (
          Then 21 (Integrals s_ii_i) (
          Then 22 (DoIn jj i (
          Then 23 (Assign (target.Block u_ii_jj) op.Set (One (operand.Block s_ii_i))) (
          Then 24 (Assign (target.Scalar x) op.Set (Two (operand.Block u_ii_jj) bin.Times (operand.Block u_ii_jj))) (
          Then 25 (PrintScalar x) End)))) End))))))) (
          Then 28 (Assign (target.Scalar x) op.Set (Two (operand.Block w_i_k) bin.Times (operand.Block w_i_k))) (
          Then 29 (PrintScalar x) End)))))) End)) End;
    }

-- with its classes and its input
abbrev pub parts : Setting
parts = record {
  program = parts_program;
  scalars = scalar.Replicated ∷ [];
  sides = side.Unused ∷ side.Unused ∷ side.Unused ∷ side.Unused ∷ side.Unused ∷ [];
  spaces = cut_spaces (3 ∷ 2 ∷ []) 2 (Segments kind.Mo 1 2 ∷ Segments kind.Mo 1 1 ∷ Pieces 0 ∷ Pieces 0 ∷ []);
  numbers = 0 ∷ [];
  blocks = [];
}

-- where it ends
abbrev pub parts_final : Final
parts_final = record empty {
  scalars = Some 6291 ∷ [];
  partials = 0 ∷ [];
  statics = [] ∷ [] ∷ [] ∷ [] ∷ ((8 ∷ 14 ∷ 20 ∷ 10 ∷ 16 ∷ 22 ∷ 12 ∷ 18 ∷ 24 ∷ []) ∷ (14 ∷ 20 ∷ 26 ∷ 16 ∷ 22 ∷ 28 ∷ []) ∷ []) ∷ [];
  lines = codes "x 154" ∷ codes "x 221" ∷ codes "x 117" ∷ codes "x 144" ∷ codes "x 5724" ∷ codes "x 1306" ∷ codes "x 6291" ∷ [];
}

-- how it runs
abbrev pub PartsRuns : Type 0
PartsRuns = Run parts parts_final None
