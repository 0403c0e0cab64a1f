-- Worked program: every form of an assignment.
--
--     1  sial forms
--     2  moindex i = 1, 2
--     3  moindex j = 1, 1
--     4  moindex k = 1, 2
--     5  static a(i,j)
--     6  static b(j,i)
--     7  static c(i,k)
--     8  static d(j,k)
--     9  static e(i)
--    10  static f(j)
--    11  static p(j,i)
--    12  scalar x
--    13  scalar y
--    14  do i
--    15  do j
--    16  execute compute_integrals a(i,j)
--    17  b(j,i) = a(i,j)
--    18  b(j,i) += a(i,j)
--    19  b(j,i) -= 3
--    20  a(i,j) = b(j,i) + a(i,j)
--    21  a(i,j) = a(i,j) - b(j,i)
--    22  do k
--    23  execute compute_integrals d(j,k)
--    24  c(i,k) = a(i,j) * d(j,k)
--    25  c(i,k) *= 2
--    26  enddo k
--    27  execute compute_integrals e(i)
--    28  execute compute_integrals f(j)
--    29  e(i) = 3 * e(i)
--    30  x = a(i,j) * b(j,i)
--    31  y = 2 - x
--    32  y *= 3
--    33  y += 5
--    34  f(j) = f(j) * y
--    35  p(j,i) = e(i) ^ f(j)
--    36  execute print_scalar x
--    37  execute print_scalar y
--    38  enddo j
--    39  enddo i
--    40  endsial forms
--
-- Its input: segments mo 2 1
use Rattle.std.specs.Prelude.{ℕ, ◌-◌, ◌^◌, [], ◌∷◌, codes, Some, None}
use Rattle.sial_syntax.specs.declared.array.ArrayKind.TheVariants as array
use Rattle.sial_syntax.specs.declared.classes.ScalarClass.TheVariants as scalar
use Rattle.sial_syntax.specs.declared.classes.Side.TheVariants as side
use Rattle.sial_syntax.specs.declared.index.Bound.TheVariants as bound
use Rattle.sial_syntax.specs.declared.index.Kind.TheVariants as kind
use Rattle.sial_syntax.specs.declared.index.Range.TheVariants as range
use Rattle.sial_syntax.specs.declared.operand.Bin.TheVariants as bin
use Rattle.sial_syntax.specs.declared.operand.BlockRef.{BlockRef}
use Rattle.sial_syntax.specs.declared.operand.Op.TheVariants as op
use Rattle.sial_syntax.specs.declared.operand.Operand.TheVariants as operand
use Rattle.sial_syntax.specs.declared.operand.Right.TheVariants.{One, Two}
use Rattle.sial_syntax.specs.declared.operand.Target.TheVariants as target
use Rattle.sial_syntax.specs.Spaces.{Segments}
use Rattle.sial_syntax.specs.Tree.{Tree, End, Then, Do, Assign, PrintScalar, Integrals}
use Rattle.sial_meaning.specs.Setting.{Setting}
use Rattle.sial_worked.specs.Runs.{Final, Run, empty, spaces_of}

-- its tree
abbrev pub forms_program : Tree
forms_program =
    let i : ℕ = 0 in
    let j : ℕ = 1 in
    let k : ℕ = 2 in
    let a : ℕ = 0 in
    let b : ℕ = 1 in
    let c : ℕ = 2 in
    let d : ℕ = 3 in
    let e : ℕ = 4 in
    let f : ℕ = 5 in
    let p : ℕ = 6 in
    let x : ℕ = 0 in
    let y : ℕ = 1 in
    let a_i_j : BlockRef = record { array = a; at = i ∷ j ∷ [] } in
    let b_j_i : BlockRef = record { array = b; at = j ∷ i ∷ [] } in
    let d_j_k : BlockRef = record { array = d; at = j ∷ k ∷ [] } in
    let c_i_k : BlockRef = record { array = c; at = i ∷ k ∷ [] } in
    let e_i : BlockRef = record { array = e; at = i ∷ [] } in
    let f_j : BlockRef = record { array = f; at = j ∷ [] } in
    let p_j_i : BlockRef = record { array = p; at = j ∷ i ∷ [] } in
    record {
      name = codes "forms";
      indices =
          record { name = codes "i"; line = 2; range = range.Segments kind.Mo (bound.Number 1) (bound.Number 2) } ∷
          record { name = codes "j"; line = 3; range = range.Segments kind.Mo (bound.Number 1) (bound.Number 1) } ∷
          record { name = codes "k"; line = 4; range = range.Segments kind.Mo (bound.Number 1) (bound.Number 2) } ∷
          [];
      arrays =
          record { name = codes "a"; line = 5; kind = array.Static; dims = i ∷ j ∷ [] } ∷
          record { name = codes "b"; line = 6; kind = array.Static; dims = j ∷ i ∷ [] } ∷
          record { name = codes "c"; line = 7; kind = array.Static; dims = i ∷ k ∷ [] } ∷
          record { name = codes "d"; line = 8; kind = array.Static; dims = j ∷ k ∷ [] } ∷
          record { name = codes "e"; line = 9; kind = array.Static; dims = i ∷ [] } ∷
          record { name = codes "f"; line = 10; kind = array.Static; dims = j ∷ [] } ∷
          record { name = codes "p"; line = 11; kind = array.Static; dims = j ∷ i ∷ [] } ∷
          [];
      scalars = codes "x" ∷ codes "y" ∷ [];
      procedures = [];
      body =
          Then 14 (Do i (
          Then 15 (Do j (
          Then 16 (Integrals a_i_j) (
          Then 17 (Assign (target.Block b_j_i) op.Set (One (operand.Block a_i_j))) (
          Then 18 (Assign (target.Block b_j_i) op.Add (One (operand.Block a_i_j))) (
          Then 19 (Assign (target.Block b_j_i) op.Subtract (One (operand.Number 3))) (
          Then 20 (Assign (target.Block a_i_j) op.Set (Two (operand.Block b_j_i) bin.Plus (operand.Block a_i_j))) (
          Then 21 (Assign (target.Block a_i_j) op.Set (Two (operand.Block a_i_j) bin.Minus (operand.Block b_j_i))) (
          Then 22 (Do k (
          Then 23 (Integrals d_j_k) (
          Then 24 (Assign (target.Block c_i_k) op.Set (Two (operand.Block a_i_j) bin.Times (operand.Block d_j_k))) (
          Then 25 (Assign (target.Block c_i_k) op.Scale (One (operand.Number 2))) End)))) (
          Then 27 (Integrals e_i) (
          Then 28 (Integrals f_j) (
          Then 29 (Assign (target.Block e_i) op.Set (Two (operand.Number 3) bin.Times (operand.Block e_i))) (
          Then 30 (Assign (target.Scalar x) op.Set (Two (operand.Block a_i_j) bin.Times (operand.Block b_j_i))) (
          Then 31 (Assign (target.Scalar y) op.Set (Two (operand.Number 2) bin.Minus (operand.Scalar x))) (
          Then 32 (Assign (target.Scalar y) op.Scale (One (operand.Number 3))) (
          Then 33 (Assign (target.Scalar y) op.Add (One (operand.Number 5))) (
          Then 34 (Assign (target.Block f_j) op.Set (Two (operand.Block f_j) bin.Times (operand.Scalar y))) (
          Then 35 (Assign (target.Block p_j_i) op.Set (Two (operand.Block e_i) bin.Outer (operand.Block f_j))) (
          Then 36 (PrintScalar x) (
          Then 37 (PrintScalar y) End))))))))))))))))))) End)) End;
    }

-- with its classes and its input
abbrev pub forms : Setting
forms = record {
  program = forms_program;
  scalars = scalar.Replicated ∷ scalar.Replicated ∷ [];
  sides = side.Unused ∷ side.Unused ∷ side.Unused ∷ side.Unused ∷ side.Unused ∷ side.Unused ∷ side.Unused ∷ [];
  spaces = spaces_of [] (2 ∷ 1 ∷ []) (Segments kind.Mo 1 2 ∷ Segments kind.Mo 1 1 ∷ Segments kind.Mo 1 2 ∷ []);
  numbers = 0 ∷ 0 ∷ [];
  blocks = [];
}

-- where it ends
abbrev pub forms_final : Final
forms_final = record empty {
  scalars = Some 189 ∷ Some (2 ^ 64 - 556) ∷ [];
  partials = 0 ∷ 0 ∷ [];
  statics =
      ((4 ∷ 7 ∷ 5 ∷ 8 ∷ []) ∷ (6 ∷ 9 ∷ []) ∷ []) ∷
      ((5 ∷ 7 ∷ 11 ∷ 13 ∷ []) ∷ (9 ∷ 15 ∷ []) ∷ []) ∷
      ((102 ∷ 168 ∷ 120 ∷ 198 ∷ []) ∷ (234 ∷ 276 ∷ []) ∷ (138 ∷ 228 ∷ []) ∷ (318 ∷ []) ∷ []) ∷
      ((4 ∷ 7 ∷ 5 ∷ 8 ∷ []) ∷ (10 ∷ 11 ∷ []) ∷ []) ∷
      ((3 ∷ 6 ∷ []) ∷ (9 ∷ []) ∷ []) ∷
      (((2 ^ 64 - 556) ∷ (2 ^ 64 - 1112) ∷ []) ∷ []) ∷
      (((2 ^ 64 - 2091) ∷ (2 ^ 64 - 4182) ∷ (2 ^ 64 - 4182) ∷ (2 ^ 64 - 8364) ∷ []) ∷ ((2 ^ 64 - 5004) ∷ (2 ^ 64 - 10008) ∷ []) ∷ []) ∷
      [];
  lines = codes "x 236" ∷ codes "y 18446744073709550919" ∷ codes "x 189" ∷ codes "y 18446744073709551060" ∷ [];
}

-- how it runs
abbrev pub FormsRuns : Type 0
FormsRuns = Run forms forms_final None
