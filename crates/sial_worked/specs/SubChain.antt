-- A program with one fault: a subindex of a subindex, declared on a later line, and used where another is declared.
--
--     1  sial b
--     2  moindex i = 1, 2
--     3  subindex ii of i
--     4  subindex jj of ii
--     5  moindex k = 1, 2
--     6  subindex kk of k
--     7  temp t(kk)
--     8  do i
--     9  do ii in i
--    10  do jj in ii
--    11  t(jj) = 1
--    12  enddo jj
--    13  enddo ii
--    14  enddo i
--    15  endsial b
--
-- In the tree, one of a table file, the declaration of line 4 stands on line 100.
use Rattle.std.specs.Prelude.{ℕ, [], ◌∷◌, codes}
use Rattle.sial_syntax.specs.declared.index.Kind.{Kind}
use Rattle.sial_syntax.specs.declared.array.ArrayKind.TheVariants as array
use Rattle.sial_syntax.specs.declared.index.Bound.TheVariants as bound
use Rattle.sial_syntax.specs.declared.index.Kind.TheVariants as kind
use Rattle.sial_syntax.specs.declared.index.Range.TheVariants as range
use Rattle.sial_syntax.specs.declared.operand.BlockRef.{BlockRef}
use Rattle.sial_syntax.specs.declared.operand.Op.TheVariants as op
use Rattle.sial_syntax.specs.declared.operand.Operand.TheVariants as operand
use Rattle.sial_syntax.specs.declared.operand.Right.TheVariants.{One}
use Rattle.sial_syntax.specs.declared.operand.Target.TheVariants as target
use Rattle.sial_syntax.specs.Tree.{Tree, End, Then, Do, DoIn, Assign}

-- its tree, with this kind in line 5 and 100 for line 4
abbrev pub sub_chain : (other : Kind) → Tree
sub_chain other =
    let i : ℕ = 0 in
    let ii : ℕ = 1 in
    let jj : ℕ = 2 in
    let k : ℕ = 3 in
    let kk : ℕ = 4 in
    let t : ℕ = 0 in
    let t_jj : BlockRef = record { array = t; at = jj ∷ [] } in
    record {
      name = codes "b";
      indices =
          record { name = codes "i"; line = 2; range = range.Segments kind.Mo (bound.Number 1) (bound.Number 2) } ∷
          record { name = codes "ii"; line = 3; range = range.Sub i } ∷
          record { name = codes "jj"; line = 100; range = range.Sub ii } ∷
          record { name = codes "k"; line = 5; range = range.Segments other (bound.Number 1) (bound.Number 2) } ∷
          record { name = codes "kk"; line = 6; range = range.Sub k } ∷
          [];
      arrays = record { name = codes "t"; line = 7; kind = array.Temp; dims = kk ∷ [] } ∷ [];
      scalars = [];
      procedures = [];
      body =
          Then 8 (Do i (
          Then 9 (DoIn ii i (
          Then 10 (DoIn jj ii (
          Then 11 (Assign (target.Block t_jj) op.Set (One (operand.Number 1))) End)) End)) End)) End;
    }
