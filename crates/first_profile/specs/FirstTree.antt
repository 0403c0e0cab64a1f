-- Trees of the first profile: the form that a program has for the small evaluator.
use Rattle.std.specs.Prelude.{◌≡◌, ℕ, ◌<◌, List, [], ◌∷◌, length, Option, Some, None, slice_index_or, All}
use Rattle.sial_syntax.specs.declared.array.ArrayDecl.{ArrayDecl}
use Rattle.sial_syntax.specs.declared.array.ArrayKind.TheVariants.{Static}
use Rattle.sial_syntax.specs.declared.index.Bound.{Bound}
use Rattle.sial_syntax.specs.declared.index.IndexDecl.{IndexDecl}
use Rattle.sial_syntax.specs.declared.index.Kind.TheVariants.{Ao}
use Rattle.sial_syntax.specs.declared.index.Range.TheVariants.{Segments}
use Rattle.sial_syntax.specs.declared.operand.Bin.TheVariants.{Times}
use Rattle.sial_syntax.specs.declared.operand.BlockRef.{BlockRef}
use Rattle.sial_syntax.specs.declared.operand.Op.TheVariants.{Set, Add}
use Rattle.sial_syntax.specs.declared.operand.Operand.TheVariants as operand
use Rattle.sial_syntax.specs.declared.operand.Right.TheVariants.{One, Two}
use Rattle.sial_syntax.specs.declared.operand.Target.TheVariants as target
use Rattle.sial_syntax.specs.Tree.{Tree, Procedure, Block, End, Then, Plain, Do, Assign, PrintScalar}

-- an index of the first profile: an `aoindex`, whatever its bounds
abbrev pub IsAoIndex : IndexDecl → Type 0
IsAoIndex index = (lo : Bound) × (hi : Bound) × (index.range ≡ Segments Ao lo hi)

-- one number, below this one
abbrev pub OneBelow : ℕ → List ℕ → Type 0
OneBelow most (x ∷ []) = x < most
OneBelow most _ = ⊥

-- an array of the first profile: static, with one index
abbrev pub IsArray : (indices : ℕ) → ArrayDecl → Type 0
IsArray indices array = (array.kind ≡ Static) × OneBelow indices array.dims

-- the declared indices of an array
abbrev pub dims_in : Tree → ℕ → List ℕ
dims_in p array = (slice_index_or p.arrays array (record { name = []; line = 0; kind = Static; dims = [] })).dims

-- a block of the first profile, in the loop over this index: its array is declared over the same one
pub record IsBlock (p : Tree) (loop : Option ℕ) (block : BlockRef) : Type 0 where
  pub array : block.array < length p.arrays
  pub declared : dims_in p block.array ≡ block.at
  pub looped : (index : ℕ) × (loop ≡ Some index) × (block.at ≡ index ∷ [])

-- a scalar that is there
abbrev pub IsScalar : Tree → ℕ → Type 0
IsScalar p scalar = scalar < length p.scalars

abbrev mutual
  -- a statement of the first profile, in the loop over an index or outside: no loop stands in a loop
  pub IsForm : Tree → Option ℕ → Plain → Type 0
  IsForm p None (Do index body) = (index < length p.indices) × IsBody p (Some index) body
  IsForm p (Some outer) (Do index body) = ⊥
  IsForm p loop (Assign (target.Block t) Set (One (operand.Number n))) = IsBlock p loop t
  IsForm p loop (Assign (target.Block t) Add (One (operand.Block b))) = IsBlock p loop t × IsBlock p loop b
  IsForm p loop (Assign (target.Scalar s) Set (One (operand.Number n))) = IsScalar p s
  IsForm p loop (Assign (target.Scalar s) Add (One (operand.Number n))) = IsScalar p s
  IsForm p loop (Assign (target.Scalar s) Set (Two (operand.Block a) Times (operand.Block b))) =
      IsScalar p s × IsBlock p loop a × IsBlock p loop b
  IsForm p loop (PrintScalar s) = IsScalar p s
  IsForm p loop _ = ⊥

  -- statements of the first profile
  pub IsBody : Tree → Option ℕ → Block → Type 0
  IsBody p loop End = Unit {0}
  IsBody p loop (Then line form rest) = IsForm p loop form × IsBody p loop rest

-- a procedure of the first profile; nothing calls it, since a call is none of the profile's statements
abbrev pub IsProcedure : Tree → Procedure → Type 0
IsProcedure p q = IsBody p None q.body

-- a tree of the first profile: each index is an `aoindex`, each array is static and has one index, and the statements of the body and
-- of each procedure are of the profile's forms
pub record IsFirstTree (p : Tree) : Type 0 where
  pub indices : All IsAoIndex p.indices
  pub arrays : All (IsArray (length p.indices)) p.arrays
  pub procedures : All (IsProcedure p) p.procedures
  pub body : IsBody p None p.body
