-- A program with one fault: a put from a block with another order of indices.
--
--     1  sial b
--     2  index i = 1, 2
--     3  index j = 1, 2
--     4  temp t(j,i)
--     5  distributed d(i,j)
--     6  pardo i, j
--     7  put d(i,j) = t(j,i)
--     8  endpardo i, j
--     9  endsial b
use Rattle.std.specs.Prelude.{ℕ, [], ◌∷◌, codes}
use Rattle.sial_syntax.specs.declared.access.Access.TheVariants as access
use Rattle.sial_syntax.specs.declared.array.ArrayKind.TheVariants as array
use Rattle.sial_syntax.specs.declared.index.Bound.TheVariants as bound
use Rattle.sial_syntax.specs.declared.index.Kind.TheVariants as kind
use Rattle.sial_syntax.specs.declared.index.Range.TheVariants as range
use Rattle.sial_syntax.specs.declared.operand.BlockRef.{BlockRef}
use Rattle.sial_syntax.specs.Tree.{Tree, End, Then, Pardo, Put}

-- its tree
abbrev pub wrong_put : Tree
wrong_put =
    let i : ℕ = 0 in
    let j : ℕ = 1 in
    let t : ℕ = 0 in
    let d : ℕ = 1 in
    let d_i_j : BlockRef = record { array = d; at = i ∷ j ∷ [] } in
    let t_j_i : BlockRef = record { array = t; at = j ∷ i ∷ [] } in
    record {
      name = codes "b";
      indices =
          record { name = codes "i"; line = 2; range = range.Segments kind.Index (bound.Number 1) (bound.Number 2) } ∷
          record { name = codes "j"; line = 3; range = range.Segments kind.Index (bound.Number 1) (bound.Number 2) } ∷
          [];
      arrays =
          record { name = codes "t"; line = 4; kind = array.Temp; dims = j ∷ i ∷ [] } ∷
          record { name = codes "d"; line = 5; kind = array.Distributed; dims = i ∷ j ∷ [] } ∷
          [];
      scalars = [];
      procedures = [];
      body =
          Then 6 (Pardo (i ∷ j ∷ []) [] (
          Then 7 (Put d_i_j access.Store t_j_i) End)) End;
    }
