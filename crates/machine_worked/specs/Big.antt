-- Worked program: the energy of a large contraction, with distributed and served arrays of four indices.
--
--     1  sial big
--     2  aoindex m = 1, nao
--     3  aoindex n = 1, nao
--     4  aoindex l = 1, nao
--     5  aoindex s = 1, nao
--     6  moindex i = 1, nmo
--     7  moindex j = 1, nmo
--     8  temp v(m,n,l,s)
--     9  temp a(l,s,i,j)
--    10  temp p(m,n,i,j)
--    11  temp q(m,n,i,j)
--    12  temp u(m,n,i,j)
--    13  served vint(m,n,l,s)
--    14  distributed t(l,s,i,j)
--    15  distributed r(m,n,i,j)
--    16  scalar esum
--    17  scalar e
--    18  create t
--    19  create r
--    20  pardo m, n, l, s
--    21  execute compute_integrals v(m,n,l,s)
--    22  prepare vint(m,n,l,s) = v(m,n,l,s)
--    23  endpardo m, n, l, s
--    24  pardo l, s, i, j
--    25  execute compute_integrals a(l,s,i,j)
--    26  put t(l,s,i,j) = a(l,s,i,j)
--    27  endpardo l, s, i, j
--    28  server_barrier
--    29  sip_barrier
--    30  pardo m, n, i, j
--    31  p(m,n,i,j) = 0.0
--    32  do l
--    33  do s
--    34  get t(l,s,i,j)
--    35  request vint(m,n,l,s) l
--    36  q(m,n,i,j) = vint(m,n,l,s) * t(l,s,i,j)
--    37  p(m,n,i,j) += q(m,n,i,j)
--    38  enddo s
--    39  enddo l
--    40  put r(m,n,i,j) = p(m,n,i,j)
--    41  u(m,n,i,j) = 1.0
--    42  esum += p(m,n,i,j) * u(m,n,i,j)
--    43  endpardo m, n, i, j
--    44  collective e += esum
--    45  execute print_scalar e
--    46  endsial big
--
-- Its input:
--        const nao = 3
--        const nmo = 2
--        segments ao 7 7 6
--        segments mo 3 2
use Rattle.std.specs.Prelude.{ℕ, List, [], ◌∷◌, ◌++◌, replicate, codes}
use Rattle.sial_syntax.specs.declared.access.Access.TheVariants as access
use Rattle.sial_syntax.specs.declared.array.ArrayDecl.{ArrayDecl}
use Rattle.sial_syntax.specs.declared.array.ArrayKind.{ArrayKind}
use Rattle.sial_syntax.specs.declared.array.ArrayKind.TheVariants as array
use Rattle.sial_syntax.specs.declared.classes.ScalarClass.TheVariants as scalar
use Rattle.sial_syntax.specs.declared.classes.Side.TheVariants as side
use Rattle.sial_syntax.specs.declared.index.Bound.TheVariants as bound
use Rattle.sial_syntax.specs.declared.index.IndexDecl.{IndexDecl}
use Rattle.sial_syntax.specs.declared.index.Kind.{Kind}
use Rattle.sial_syntax.specs.declared.index.Kind.TheVariants as kind
use Rattle.sial_syntax.specs.declared.index.Range.TheVariants as range
use Rattle.sial_syntax.specs.declared.operand.Bin.TheVariants as bin
use Rattle.sial_syntax.specs.declared.operand.BlockRef.{BlockRef}
use Rattle.sial_syntax.specs.declared.operand.Op.TheVariants as op
use Rattle.sial_syntax.specs.declared.operand.Operand.TheVariants as operand
use Rattle.sial_syntax.specs.declared.operand.Right.TheVariants.{One, Two}
use Rattle.sial_syntax.specs.declared.operand.Target.TheVariants as target
use Rattle.sial_syntax.specs.Spaces.{Segments}
use Rattle.sial_syntax.specs.Tree.{Tree, End, Then, Do, Pardo, Assign, Get, Request, Put, Prepare, Create, Collective, SipBarrier, ServerBarrier, PrintScalar, Integrals}
use Rattle.sial_meaning.specs.Setting.{Setting}
use Rattle.sial_worked.specs.Runs.{spaces_of}

-- an index over the first segments of a kind, as many as a constant says
abbrev pub index_to : (name : List ℕ) → (line : ℕ) → Kind → (last : List ℕ) → IndexDecl
index_to name line kind last = record { name = name; line = line; range = range.Segments kind (bound.Number 1) (bound.Named last) }

-- an array
abbrev pub array_over : (name : List ℕ) → (line : ℕ) → ArrayKind → (dims : List ℕ) → ArrayDecl
array_over name line kind dims = record { name = name; line = line; kind = kind; dims = dims }

-- its tree
abbrev pub big_program : Tree
big_program =
    let m : ℕ = 0 in
    let n : ℕ = 1 in
    let l : ℕ = 2 in
    let s : ℕ = 3 in
    let i : ℕ = 4 in
    let j : ℕ = 5 in
    let v : ℕ = 0 in
    let a : ℕ = 1 in
    let p : ℕ = 2 in
    let q : ℕ = 3 in
    let u : ℕ = 4 in
    let vint : ℕ = 5 in
    let t : ℕ = 6 in
    let r : ℕ = 7 in
    let esum : ℕ = 0 in
    let e : ℕ = 1 in
    let mnls : List ℕ = m ∷ n ∷ l ∷ s ∷ [] in
    let lsij : List ℕ = l ∷ s ∷ i ∷ j ∷ [] in
    let mnij : List ℕ = m ∷ n ∷ i ∷ j ∷ [] in
    let v_mnls : BlockRef = record { array = v; at = mnls } in
    let a_lsij : BlockRef = record { array = a; at = lsij } in
    let p_mnij : BlockRef = record { array = p; at = mnij } in
    let q_mnij : BlockRef = record { array = q; at = mnij } in
    let u_mnij : BlockRef = record { array = u; at = mnij } in
    let vint_mnls : BlockRef = record { array = vint; at = mnls } in
    let t_lsij : BlockRef = record { array = t; at = lsij } in
    let r_mnij : BlockRef = record { array = r; at = mnij } in
    record {
      name = codes "big";
      indices =
          index_to (codes "m") 2 kind.Ao (codes "nao") ∷
          index_to (codes "n") 3 kind.Ao (codes "nao") ∷
          index_to (codes "l") 4 kind.Ao (codes "nao") ∷
          index_to (codes "s") 5 kind.Ao (codes "nao") ∷
          index_to (codes "i") 6 kind.Mo (codes "nmo") ∷
          index_to (codes "j") 7 kind.Mo (codes "nmo") ∷
          [];
      arrays =
          array_over (codes "v") 8 array.Temp mnls ∷
          array_over (codes "a") 9 array.Temp lsij ∷
          array_over (codes "p") 10 array.Temp mnij ∷
          array_over (codes "q") 11 array.Temp mnij ∷
          array_over (codes "u") 12 array.Temp mnij ∷
          array_over (codes "vint") 13 array.Served mnls ∷
          array_over (codes "t") 14 array.Distributed lsij ∷
          array_over (codes "r") 15 array.Distributed mnij ∷
          [];
      scalars = codes "esum" ∷ codes "e" ∷ [];
      procedures = [];
      body =
          Then 18 (Create t) (
          Then 19 (Create r) (
          Then 20 (Pardo mnls [] (
          Then 21 (Integrals v_mnls) (
          Then 22 (Prepare vint_mnls access.Store v_mnls) End))) (
          Then 24 (Pardo lsij [] (
          Then 25 (Integrals a_lsij) (
          Then 26 (Put t_lsij access.Store a_lsij) End))) (
          Then 28 ServerBarrier (
          Then 29 SipBarrier (
          Then 30 (Pardo mnij [] (
          Then 31 (Assign (target.Block p_mnij) op.Set (One (operand.Number 0))) (
          Then 32 (Do l (
          Then 33 (Do s (
          Then 34 (Get t_lsij) (
          Then 35 (Request vint_mnls) (
          Then 36 (Assign (target.Block q_mnij) op.Set (Two (operand.Block vint_mnls) bin.Times (operand.Block t_lsij))) (
          Then 37 (Assign (target.Block p_mnij) op.Add (One (operand.Block q_mnij))) End))))) End)) (
          Then 40 (Put r_mnij access.Store p_mnij) (
          Then 41 (Assign (target.Block u_mnij) op.Set (One (operand.Number 1))) (
          Then 42 (Assign (target.Scalar esum) op.Add (Two (operand.Block p_mnij) bin.Times (operand.Block u_mnij))) End)))))) (
          Then 44 (Collective e esum) (
          Then 45 (PrintScalar e) End))))))));
    }

-- with its classes and its input
abbrev pub big : Setting
big = record {
  program = big_program;
  scalars = scalar.Partial ∷ scalar.Replicated ∷ [];
  sides = replicate 8 side.Unused;
  spaces = spaces_of (7 ∷ 7 ∷ 6 ∷ []) (3 ∷ 2 ∷ []) (replicate 4 (Segments kind.Ao 1 3) ++ replicate 2 (Segments kind.Mo 1 2));
  numbers = 0 ∷ 0 ∷ [];
  blocks = [];
}
