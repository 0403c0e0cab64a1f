-- The spaces that an opening gives.
use Rattle.std.specs.Prelude.{List, [], map}
use Rattle.sial_syntax.specs.declared.array.ArrayDecl.{ArrayDecl}
use Rattle.sial_syntax.specs.Spaces.{Spaces}
use Rattle.index_spaces.specs.declared.kinds.Kinds.{Kinds}
use Rattle.index_spaces.specs.declared.span.Span.{Span}
use Rattle.index_spaces.specs.Placed.{Placed, bare, spans_of}

-- the segments, the spans and the arrays that were handed in
abbrev pub placed : Kinds → List Span → List ArrayDecl → Placed
placed kinds spans arrays = record {
  spaces = record { ao = kinds.ao; mo = kinds.mo; moa = kinds.moa; mob = kinds.mob; spans = spans_of spans };
  arrays = map bare arrays;
}

-- the segments of the kinds, before any index runs over them
abbrev pub cuts_of : Kinds → Spaces
cuts_of kinds = record { ao = kinds.ao; mo = kinds.mo; moa = kinds.moa; mob = kinds.mob; spans = [] }
