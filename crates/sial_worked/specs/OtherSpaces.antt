-- Spaces that a program hasn't.
--
--     1  sial past
--     2  aoindex i = 1, 1
--     3  aoindex j = 1, 2
--     4  static a(i)
--     5  do j
--     6  execute compute_integrals a(j)
--     7  enddo j
--     8  endsial past
use Rattle.std.specs.Prelude.{ℕ, [], ◌∷◌, codes}
use Rattle.sial_syntax.specs.declared.array.ArrayKind.TheVariants as array
use Rattle.sial_syntax.specs.declared.index.Bound.TheVariants as bound
use Rattle.sial_syntax.specs.declared.index.IndexDecl.{IndexDecl}
use Rattle.sial_syntax.specs.declared.index.Kind.TheVariants as kind
use Rattle.sial_syntax.specs.declared.index.Range.TheVariants as range
use Rattle.sial_syntax.specs.declared.operand.BlockRef.{BlockRef}
use Rattle.sial_syntax.specs.Spaces.{Segments}
use Rattle.sial_syntax.specs.Tree.{Tree, End, Then, Do, Integrals}
use Rattle.sial_syntax.specs.Resolved.{Constants, AreSpacesBy}
use Rattle.sial_worked.specs.First.{first}
use Rattle.sial_worked.specs.Named.{named}
use Rattle.sial_worked.specs.Runs.{spaces_of}

-- a block named by an index that goes past the array's
abbrev pub past : Tree
past =
    let i : ℕ = 0 in
    let j : ℕ = 1 in
    let a : ℕ = 0 in
    let a_j : BlockRef = record { array = a; at = j ∷ [] } in
    record {
      name = codes "past";
      indices =
          record { name = codes "i"; line = 2; range = range.Segments kind.Ao (bound.Number 1) (bound.Number 1) } ∷
          record { name = codes "j"; line = 3; range = range.Segments kind.Ao (bound.Number 1) (bound.Number 2) } ∷
          [];
      arrays = record { name = codes "a"; line = 4; kind = array.Static; dims = i ∷ [] } ∷ [];
      scalars = [];
      procedures = [];
      body =
          Then 5 (Do j (
          Then 6 (Integrals a_j) End)) End;
    }

-- a range that ends before it begins, and past two segments
abbrev pub backwards : IndexDecl
backwards = record { name = codes "i"; line = 2; range = range.Segments kind.Ao (bound.Number 4) (bound.Number 3) }

-- spaces that aren't a program's, whatever its constants are
pub record SpacesAreRefused : Type 0 where
  -- a kind has no segments
  pub no_segments : (constants : Constants) → AreSpacesBy constants first.program (spaces_of [] [] (Segments kind.Ao 1 2 ∷ [])) → ⊥
  -- a range goes past its kind's segments
  pub too_high : (constants : Constants) → AreSpacesBy constants first.program (spaces_of (2 ∷ []) [] (Segments kind.Ao 1 2 ∷ [])) → ⊥
  -- so it does where it is empty
  pub empty_too_high : (constants : Constants)
      → AreSpacesBy constants (record first.program { indices = backwards ∷ [] }) (spaces_of (2 ∷ 1 ∷ []) [] (Segments kind.Ao 1 0 ∷ []))
      → ⊥
  -- a span isn't the declared range
  pub other_span : (constants : Constants)
      → AreSpacesBy constants first.program (spaces_of (2 ∷ 1 ∷ 1 ∷ []) [] (Segments kind.Ao 2 2 ∷ [])) → ⊥
  -- a constant is missing
  pub no_constant : AreSpacesBy ((codes "nao", 3) ∷ []) named.program named.spaces → ⊥
  -- a segment is longer than it may be
  pub too_long : (constants : Constants)
      → AreSpacesBy constants first.program (spaces_of (2 ∷ 1025 ∷ []) [] (Segments kind.Ao 1 2 ∷ [])) → ⊥
  -- an index in a block isn't within the declared one
  pub not_within : (constants : Constants)
      → AreSpacesBy constants past (spaces_of (2 ∷ 1 ∷ []) [] (Segments kind.Ao 1 1 ∷ Segments kind.Ao 1 2 ∷ [])) → ⊥
