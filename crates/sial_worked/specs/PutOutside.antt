-- A program with one fault: a put outside.
--
--     1  sial b
--     2  index i = 1, 2
--     3  temp t(i)
--     4  distributed d(i)
--     5  do i
--     6  put d(i) = t(i)
--     7  enddo i
--     8  endsial b
use Rattle.std.specs.Prelude.{ℕ, [], ◌∷◌, codes}
use Rattle.sial_syntax.specs.declared.access.Access.TheVariants as access
use Rattle.sial_syntax.specs.declared.array.ArrayKind.TheVariants as array
use Rattle.sial_syntax.specs.declared.index.Bound.TheVariants as bound
use Rattle.sial_syntax.specs.declared.index.Kind.TheVariants as kind
use Rattle.sial_syntax.specs.declared.index.Range.TheVariants as range
use Rattle.sial_syntax.specs.declared.operand.BlockRef.{BlockRef}
use Rattle.sial_syntax.specs.Tree.{Tree, End, Then, Do, Put}

-- its tree
abbrev pub put_outside : Tree
put_outside =
    let i : ℕ = 0 in
    let t : ℕ = 0 in
    let d : ℕ = 1 in
    let d_i : BlockRef = record { array = d; at = i ∷ [] } in
    let t_i : BlockRef = record { array = t; at = i ∷ [] } in
    record {
      name = codes "b";
      indices = record { name = codes "i"; line = 2; range = range.Segments kind.Index (bound.Number 1) (bound.Number 2) } ∷ [];
      arrays =
          record { name = codes "t"; line = 3; kind = array.Temp; dims = i ∷ [] } ∷
          record { name = codes "d"; line = 4; kind = array.Distributed; dims = i ∷ [] } ∷
          [];
      scalars = [];
      procedures = [];
      body =
          Then 5 (Do i (
          Then 6 (Put d_i access.Store t_i) End)) End;
    }
