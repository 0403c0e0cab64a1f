-- Worked program: a statement that breaks two rules.
--
--     1  sial both
--     2  index i = 1, 2
--     3  index j = 1, 2
--     4  distributed d(i,j)
--     5  do i
--     6  d(i,i) = 1
--     7  enddo i
--     8  endsial both
use Rattle.std.specs.Prelude.{◌≡◌, ℕ, [], ◌∷◌, codes, Some}
use Rattle.sial_syntax.specs.declared.array.ArrayKind.TheVariants as array
use Rattle.sial_syntax.specs.declared.index.Bound.TheVariants as bound
use Rattle.sial_syntax.specs.declared.index.Kind.TheVariants as kind
use Rattle.sial_syntax.specs.declared.index.Range.TheVariants as range
use Rattle.sial_syntax.specs.declared.operand.BlockRef.{BlockRef}
use Rattle.sial_syntax.specs.declared.operand.Op.TheVariants as op
use Rattle.sial_syntax.specs.declared.operand.Operand.TheVariants as operand
use Rattle.sial_syntax.specs.declared.operand.Right.TheVariants.{One}
use Rattle.sial_syntax.specs.declared.operand.Target.TheVariants as target
use Rattle.sial_syntax.specs.Tree.{Tree, End, Then, Do, Assign, Get, Integrals}
use Rattle.sial_syntax.specs.Shapes.{shape_fault}

-- its tree
abbrev pub two_faults_program : Tree
two_faults_program =
    let i : ℕ = 0 in
    let j : ℕ = 1 in
    let d : ℕ = 0 in
    let d_i_i : BlockRef = record { array = d; at = i ∷ i ∷ [] } in
    record {
      name = codes "both";
      indices =
          record { name = codes "i"; line = 2; range = range.Segments kind.Index (bound.Number 1) (bound.Number 2) } ∷
          record { name = codes "j"; line = 3; range = range.Segments kind.Index (bound.Number 1) (bound.Number 2) } ∷
          [];
      arrays = record { name = codes "d"; line = 4; kind = array.Distributed; dims = i ∷ j ∷ [] } ∷ [];
      scalars = [];
      procedures = [];
      body =
          Then 5 (Do i (
          Then 6 (Assign (target.Block d_i_i) op.Set (One (operand.Number 1))) End)) End;
    }

-- the shape rules find Repeated, which has the lesser number, and not NotWritable
abbrev pub TwoFaultsOnOneLine : Type 0
TwoFaultsOnOneLine = shape_fault two_faults_program ≡ Some (record { line = 6; rule = 3 })

-- a tree of a table file, in which a statement that breaks Unbound stands behind one that breaks NotWritable, on its line
abbrev pub two_on_line : Tree
two_on_line = record two_faults_program {
  body =
      Then 5 (Do 0 (Then 6 (Do 1 (
      Then 7 (Integrals (record { array = 0; at = 0 ∷ 1 ∷ [] })) End)) (
      Then 7 (Get (record { array = 0; at = 0 ∷ 1 ∷ [] })) End))) End;
}

-- the shape rules find Unbound, which has the lesser number
abbrev pub TwoStatementsOnOneLine : Type 0
TwoStatementsOnOneLine = shape_fault two_on_line ≡ Some (record { line = 7; rule = 1 })
