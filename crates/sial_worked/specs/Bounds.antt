-- Trees and constants at the bounds of numbers and lines, and past them.
--
--     1  sial edge
--     2  index i = 1, 2
--     3  static a(i)
--     4  scalar x
--     5  x = 1
--     6  endsial edge
--
-- In the trees below some of its numbers are others: lines 2, 3 and 5, the bound 2 and the literal 1.
use Rattle.std.specs.Prelude.{◌≡◌, ℕ, ◌+◌, ◌-◌, ◌/◌, ◌%◌, ◌^◌, List, [], ◌∷◌, map, codes, true, false}
use Rattle.sial_syntax.specs.declared.array.ArrayKind.TheVariants as array
use Rattle.sial_syntax.specs.declared.index.Bound.TheVariants as bound
use Rattle.sial_syntax.specs.declared.index.Kind.TheVariants as kind
use Rattle.sial_syntax.specs.declared.index.Range.TheVariants as range
use Rattle.sial_syntax.specs.declared.operand.Op.TheVariants as op
use Rattle.sial_syntax.specs.declared.operand.Operand.TheVariants as operand
use Rattle.sial_syntax.specs.declared.operand.Right.TheVariants.{One}
use Rattle.sial_syntax.specs.declared.operand.Target.TheVariants as target
use Rattle.sial_syntax.specs.Boxes.{numbers_from}
use Rattle.sial_syntax.specs.Proper.{IsProper}
use Rattle.sial_syntax.specs.Resolved.{Constants, may_be_constants}
use Rattle.sial_syntax.specs.Tree.{Tree, End, Then, Assign}

-- the numbers of the tree that may be others
pub record Numbers : Type 0 where
  pub index_line : ℕ
  pub array_line : ℕ
  pub line : ℕ
  pub bound : ℕ
  pub literal : ℕ

-- those of the text
abbrev pub as_written : Numbers
as_written = record { index_line = 2; array_line = 3; line = 5; bound = 2; literal = 1 }

-- the tree with these numbers
abbrev pub edge : Numbers → Tree
edge n = record {
  name = codes "edge";
  indices =
      record { name = codes "i"; line = n.index_line; range = range.Segments kind.Index (bound.Number 1) (bound.Number n.bound) } ∷ [];
  arrays = record { name = codes "a"; line = n.array_line; kind = array.Static; dims = 0 ∷ [] } ∷ [];
  scalars = codes "x" ∷ [];
  procedures = [];
  body = Then n.line (Assign (target.Scalar 0) op.Set (One (operand.Number n.literal))) End;
}

-- the greatest numbers and lines are proper, and no others
pub record NumbersAreBounded : Type 0 where
  pub greatest : IsProper (edge (record {
    index_line = 2 ^ 32 - 1;
    array_line = 2 ^ 32 - 1;
    line = 2 ^ 32 - 1;
    bound = 2 ^ 64 - 1;
    literal = 2 ^ 64 - 1;
  }))
  pub index_line : IsProper (edge (record as_written { index_line = 2 ^ 32 })) → ⊥
  pub array_line : IsProper (edge (record as_written { array_line = 2 ^ 32 })) → ⊥
  pub line : IsProper (edge (record as_written { line = 2 ^ 32 })) → ⊥
  pub bound : IsProper (edge (record as_written { bound = 2 ^ 64 })) → ⊥
  pub literal : IsProper (edge (record as_written { literal = 2 ^ 64 })) → ⊥

-- names of two letters, one for each number below 676
abbrev pub name_of : ℕ → List ℕ
name_of k = (97 + k % 26) ∷ (97 + k / 26) ∷ []

-- so many constants of different names
abbrev pub many : ℕ → Constants
many n = map (λ k. (name_of k, k)) (numbers_from 0 n)

-- an input gives at most 256 constants, each name once, and numbers
pub record ConstantsAreAnInputs : Type 0 where
  pub most : may_be_constants (many 256) ≡ true
  pub too_many : may_be_constants (many 257) ≡ false
  pub twice : may_be_constants ((codes "nao", 3) ∷ (codes "nmo", 2) ∷ (codes "nao", 3) ∷ []) ≡ false
  pub too_wide : may_be_constants ((codes "nao", 2 ^ 64) ∷ []) ≡ false
  pub greatest : may_be_constants ((codes "nao", 2 ^ 64 - 1) ∷ []) ≡ true
  pub no_name : may_be_constants ((codes "1ao", 3) ∷ []) ≡ false
