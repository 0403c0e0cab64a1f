-- A program with one fault: a local array used on both sides.
--
--     1  sial b
--     2  index i = 1, 2
--     3  local l(i)
--     4  pardo i
--     5  allocate l(i)
--     6  endpardo i
--     7  do i
--     8  allocate l(i)
--     9  enddo i
--    10  endsial b
use Rattle.std.specs.Prelude.{ℕ, [], ◌∷◌, codes}
use Rattle.sial_syntax.specs.declared.array.ArrayKind.TheVariants as array
use Rattle.sial_syntax.specs.declared.index.Bound.TheVariants as bound
use Rattle.sial_syntax.specs.declared.index.Kind.TheVariants as kind
use Rattle.sial_syntax.specs.declared.index.Range.TheVariants as range
use Rattle.sial_syntax.specs.declared.operand.Slot.TheVariants as slot
use Rattle.sial_syntax.specs.Tree.{Tree, End, Then, Do, Pardo, Allocate}

-- its tree
abbrev pub mixed_local : Tree
mixed_local =
    let i : ℕ = 0 in
    let l : ℕ = 0 in
    record {
      name = codes "b";
      indices = record { name = codes "i"; line = 2; range = range.Segments kind.Index (bound.Number 1) (bound.Number 2) } ∷ [];
      arrays = record { name = codes "l"; line = 3; kind = array.Local; dims = i ∷ [] } ∷ [];
      scalars = [];
      procedures = [];
      body =
          Then 4 (Pardo (i ∷ []) [] (
          Then 5 (Allocate l (slot.At i ∷ [])) End)) (
          Then 7 (Do i (
          Then 8 (Allocate l (slot.At i ∷ [])) End)) End);
    }
