-- What contracts see of the spaces of a program: its indices, and its arrays without names and lines.
use Rattle.std.specs.Prelude.{ℕ, ◌+◌, ◌^◌, ◌<◌, ◌≤◌, List, [], ◌∷◌, map, Bool, true, ◌==◌, ◌&&◌, nat_le, nat_lt, slice_index_or}
use Rattle.std.specs.List.{list_all}
use Rattle.sial_syntax.specs.declared.array.ArrayDecl.{ArrayDecl}
use Rattle.sial_syntax.specs.declared.array.ArrayKind.TheVariants.{Temp}
use Rattle.sial_syntax.specs.Spaces as sp
use Rattle.sial_syntax.specs.Spaces.{Spaces}
use Rattle.index_spaces.specs.declared.extent.Extent.{Extent}
use Rattle.index_spaces.specs.declared.span.Span.{Span}
use Rattle.index_spaces.specs.declared.span.Span.TheVariants.{Segments, Pieces}

-- the spaces of a program beside its arrays
pub record Placed : Type 0 where
  pub spaces : Spaces
  pub arrays : List ArrayDecl

-- an array without its name and its line
abbrev pub bare : ArrayDecl → ArrayDecl
bare array = record { name = []; line = 0; kind = array.kind; dims = array.dims }

-- an array of some; one that isn't declared is a temp without dimensions
abbrev pub array_among : List ArrayDecl → ℕ → ArrayDecl
array_among arrays array = slice_index_or arrays array (record { name = []; line = 0; kind = Temp; dims = [] })

-- whether an array is temp
abbrev pub is_temp : ArrayDecl → Bool
is_temp array = sp.same_kind array.kind Temp

-- a segment or a piece, as the definitions have it
abbrev pub extent_of : Extent → sp.Extent
extent_of e = record { start = e.start; len = e.len }

-- its first position and its length
abbrev pub pair_of : sp.Extent → ℕ × ℕ
pair_of e = (e.start, e.len)

-- what an index runs over, as the definitions have it
abbrev pub span_of : Span → sp.Span
span_of (Segments kind first count) = sp.Segments kind first count
span_of (Pieces super) = sp.Pieces super

-- what some indices run over
abbrev pub spans_of : List Span → List sp.Span
spans_of spans = map span_of spans

-- whether the segments of an index end below 2^32
abbrev pub is_short : Span → Bool
is_short (Segments kind first count) = nat_lt (first + count) (2 ^ 32)
is_short (Pieces super) = true

-- whether those of all indices do
abbrev pub are_short : List Span → Bool
are_short spans = list_all is_short spans

-- the lengths of segments
abbrev pub lengths_of : List Extent → List ℕ
lengths_of segments = map (λ (e : Extent). e.len) segments

-- whether each segment begins behind those before it
abbrev pub follow_from : (start : ℕ) → List Extent → Bool
follow_from start [] = true
follow_from start (e ∷ es) = (e.start == start) && follow_from (start + e.len) es

-- whether segments begin not too far out, and aren't too long
abbrev pub are_near : List Extent → Bool
are_near segments = list_all (λ (e : Extent). nat_lt e.start (2 ^ 31) && nat_le e.len 1024) segments

-- for each index the number of one of its kind's segments
abbrev pub AreIn : Spaces → List ℕ → List ℕ → Type 0
AreIn spaces [] numbers = Unit {0}
AreIn spaces (i ∷ is) [] = Unit {0}
AreIn spaces (i ∷ is) (n ∷ ns) = (0 < n) × (n ≤ sp.segments_of spaces (sp.kind_of spaces i)) × AreIn spaces is ns
