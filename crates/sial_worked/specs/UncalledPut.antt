-- A program at an edge of the rules: a put in a procedure that nobody calls, which stands on no side.
--
--     1  sial b
--     2  index i = 1, 2
--     3  temp t(i)
--     4  distributed d(i)
--     5  proc p
--     6  do i
--     7  put d(i) = t(i)
--     8  enddo i
--     9  endproc p
--    10  endsial b
use Rattle.std.specs.Prelude.{ℕ, [], ◌∷◌, codes}
use Rattle.sial_syntax.specs.declared.access.Access.TheVariants as access
use Rattle.sial_syntax.specs.declared.array.ArrayKind.TheVariants as array
use Rattle.sial_syntax.specs.declared.index.Bound.TheVariants as bound
use Rattle.sial_syntax.specs.declared.index.Kind.TheVariants as kind
use Rattle.sial_syntax.specs.declared.index.Range.TheVariants as range
use Rattle.sial_syntax.specs.declared.operand.BlockRef.{BlockRef}
use Rattle.sial_syntax.specs.Tree.{Tree, End, Then, Do, Put}

-- its tree
abbrev pub uncalled_put : Tree
uncalled_put =
    let i : ℕ = 0 in
    let t : ℕ = 0 in
    let d : ℕ = 1 in
    let d_i : BlockRef = record { array = d; at = i ∷ [] } in
    let t_i : BlockRef = record { array = t; at = i ∷ [] } in
    record {
      name = codes "b";
      indices = record { name = codes "i"; line = 2; range = range.Segments kind.Index (bound.Number 1) (bound.Number 2) } ∷ [];
      arrays =
          record { name = codes "t"; line = 3; kind = array.Temp; dims = i ∷ [] } ∷
          record { name = codes "d"; line = 4; kind = array.Distributed; dims = i ∷ [] } ∷
          [];
      scalars = [];
      procedures =
          record {
            name = codes "p";
            body =
                Then 6 (Do i (
                Then 7 (Put d_i access.Store t_i) End)) End;
          } ∷
          [];
      body = End;
    }
