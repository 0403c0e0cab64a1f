-- Which indices cut the segments of others.
use Rattle.std.specs.Prelude.{◌≡◌, ℕ, List, Option, Some, None, slice_get}
use Rattle.sial_syntax.specs.declared.index.IndexDecl.{IndexDecl}
use Rattle.sial_syntax.specs.Agreeing.{range_super}
use Rattle.sial_syntax.specs.Spaces.{Spaces, Span, Segments, Pieces, span_of}

-- the index whose segments are cut into the pieces of a span
abbrev pub span_super : Span → Option ℕ
span_super (Segments kind first count) = None
span_super (Pieces super) = Some super

-- the index that a declaration cuts
abbrev pub decl_super : Option IndexDecl → Option ℕ
decl_super None = None
decl_super (Some declared) = range_super declared.range

-- the index that an index cuts, by its declaration
abbrev pub super_of : List IndexDecl → (index : ℕ) → Option ℕ
super_of indices index = decl_super (slice_get indices index)

-- each index runs over pieces exactly where it is declared as a subindex, and over those of its super index
pub record IsCutAs (spaces : Spaces) (indices : List IndexDecl) : Type 0 where
  pub supers : (index : ℕ) → span_super (span_of spaces index) ≡ super_of indices index
