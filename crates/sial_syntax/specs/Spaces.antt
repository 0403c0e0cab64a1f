-- What indices run over: segments of their kind, pieces of segments, and the blocks of arrays.
use Rattle.std.specs.Prelude.{ℕ, zero, suc, ◌+◌, ◌-◌, ◌*◌, ◌/◌, min, List, [], ◌∷◌, map, take, sum, sum_by, length, Bool, true, false, slice_index_or, filter}
use Rattle.sial_syntax.specs.declared.index.Kind.{Kind}
use Rattle.sial_syntax.specs.declared.index.Kind.TheVariants.{Ao, Mo, Moa, Mob, Index}
use Rattle.sial_syntax.specs.declared.array.ArrayDecl.{ArrayDecl}
use Rattle.sial_syntax.specs.declared.array.ArrayKind.{ArrayKind}
use Rattle.sial_syntax.specs.declared.array.ArrayKind.TheVariants.{Static, Temp, Local, Distributed, Served}
use Rattle.sial_syntax.specs.declared.access.Class.{Class}
use Rattle.sial_syntax.specs.declared.access.Class.TheVariants as class
use Rattle.sial_syntax.specs.Boxes.{volume, place_of, tuple_at}

-- where something lies: its first position, counted from 1, and how many positions it has
pub record Extent : Type 0 where
  pub start : ℕ
  pub len : ℕ

-- the lengths of a kind's segments, and the length of the pieces that subindices cut
pub record Cut : Type 0 where
  pub segments : List ℕ
  pub piece : ℕ

-- what an index runs over: so many segments of its kind from the first on, or the pieces of another's segment
pub data Span : Type 0 where
  Segments : (kind : Kind) → (first count : ℕ) → Span
  Pieces : (super : ℕ) → Span

-- the input's segments of the four kinds, and the span of each index in order of declaration
pub record Spaces : Type 0 where
  pub ao : Cut
  pub mo : Cut
  pub moa : Cut
  pub mob : Cut
  pub spans : List Span

-- the span of an index; one that isn't declared runs over nothing
abbrev pub span_of : Spaces → ℕ → Span
span_of spaces index = slice_index_or spaces.spans index (Segments Index 1 0)

-- the kind of a span of segments
abbrev pub own_kind : Span → Kind
own_kind (Segments kind first count) = kind
own_kind (Pieces super) = Index

-- the kind of a span; pieces have that of their super index
abbrev pub span_kind : Spaces → Span → Kind
span_kind spaces (Segments kind first count) = kind
span_kind spaces (Pieces super) = own_kind (span_of spaces super)

-- the kind of an index
abbrev pub kind_of : Spaces → ℕ → Kind
kind_of spaces index = span_kind spaces (span_of spaces index)

-- the first segment of a span
abbrev pub span_first : Span → ℕ
span_first (Segments kind first count) = first
span_first (Pieces super) = 1

-- how many segments a span has
abbrev pub span_count : Span → ℕ
span_count (Segments kind first count) = count
span_count (Pieces super) = 0

-- the first segment of an index
abbrev pub first_of : Spaces → ℕ → ℕ
first_of spaces index = span_first (span_of spaces index)

-- how many segments an index has
abbrev pub count_of : Spaces → ℕ → ℕ
count_of spaces index = span_count (span_of spaces index)

-- the segments of a kind; plain numbers have 4,096 segments of length 1, which no input gives
abbrev pub cut_of : Spaces → Kind → Cut
cut_of spaces Ao = spaces.ao
cut_of spaces Mo = spaces.mo
cut_of spaces Moa = spaces.moa
cut_of spaces Mob = spaces.mob
cut_of spaces Index = record { segments = []; piece = 1 }

-- how many segments a kind has
abbrev pub segments_of : Spaces → Kind → ℕ
segments_of spaces Ao = length spaces.ao.segments
segments_of spaces Mo = length spaces.mo.segments
segments_of spaces Moa = length spaces.moa.segments
segments_of spaces Mob = length spaces.mob.segments
segments_of spaces Index = 4096

-- the length of a segment among such lengths, numbered from 1; number 0 stands for no segment, which has no length
abbrev pub length_among : List ℕ → ℕ → ℕ
length_among lengths zero = 0
length_among lengths (suc before) = slice_index_or lengths before 0

-- a segment among such lengths, numbered from 1: it begins behind those before it
abbrev pub among : List ℕ → ℕ → Extent
among lengths number = record { start = 1 + sum (take (number - 1) lengths); len = length_among lengths number }

-- a segment of a kind, numbered from 1
abbrev pub segment : Spaces → Kind → ℕ → Extent
segment spaces Ao number = among spaces.ao.segments number
segment spaces Mo number = among spaces.mo.segments number
segment spaces Moa number = among spaces.moa.segments number
segment spaces Mob number = among spaces.mob.segments number
segment spaces Index number = record { start = number; len = min 1 number }

-- how many pieces of this length a segment has, the last one shorter where need be
abbrev pub pieces_in : Extent → ℕ → ℕ
pieces_in whole piece = (whole.len + (piece - 1)) / piece

-- the length of a piece of a segment, numbered from 1; number 0 stands for no piece, which has no length
abbrev pub length_of_piece : Extent → ℕ → ℕ → ℕ
length_of_piece whole piece zero = 0
length_of_piece whole piece (suc before) = min piece (whole.len - before * piece)

-- a piece of a segment, numbered from 1
abbrev pub piece_at : Extent → ℕ → ℕ → Extent
piece_at whole piece number = record { start = whole.start + (number - 1) * piece; len = length_of_piece whole piece number }

-- how many pieces a subindex has in a segment of its super index
abbrev pub pieces_of : Spaces → (sub segment : ℕ) → ℕ
pieces_of spaces sub number = pieces_in (segment spaces (kind_of spaces sub) number) (cut_of spaces (kind_of spaces sub)).piece

-- a piece of a subindex in a segment of its super index, numbered from 1
abbrev pub piece_of : Spaces → (sub segment number : ℕ) → Extent
piece_of spaces sub number piece = piece_at (segment spaces (kind_of spaces sub) number) (cut_of spaces (kind_of spaces sub)).piece piece

-- what an index lies on, where each index has the number of a segment or of a piece
abbrev pub span_extent : Spaces → List ℕ → ℕ → Span → Extent
span_extent spaces values index (Segments kind first count) = segment spaces kind (slice_index_or values index 0)
span_extent spaces values index (Pieces super) = piece_of spaces index (slice_index_or values super 0) (slice_index_or values index 0)

-- what an index lies on now
abbrev pub extent : Spaces → List ℕ → ℕ → Extent
extent spaces values index = span_extent spaces values index (span_of spaces index)

-- how many segments each of these indices has: the box of their tuples
abbrev pub box_of : Spaces → List ℕ → List ℕ
box_of spaces indices = map (count_of spaces) indices

-- segment numbers, each counted from the first of its index
abbrev pub from_firsts : Spaces → List ℕ → List ℕ → List ℕ
from_firsts spaces [] numbers = []
from_firsts spaces (i ∷ is) [] = []
from_firsts spaces (i ∷ is) (n ∷ ns) = (n - first_of spaces i) ∷ from_firsts spaces is ns

-- the segment numbers of a tuple that counts from the firsts
abbrev pub onto_firsts : Spaces → List ℕ → List ℕ → List ℕ
onto_firsts spaces [] tuple = []
onto_firsts spaces (i ∷ is) [] = []
onto_firsts spaces (i ∷ is) (k ∷ ks) = (first_of spaces i + k) ∷ onto_firsts spaces is ks

-- the place of a tuple of segment numbers in the box of its indices
abbrev pub rank_of : Spaces → List ℕ → List ℕ → ℕ
rank_of spaces indices numbers = place_of (box_of spaces indices) (from_firsts spaces indices numbers)

-- the tuple of segment numbers at a place of the box of these indices
abbrev pub numbers_at : Spaces → List ℕ → ℕ → List ℕ
numbers_at spaces indices rank = onto_firsts spaces indices (tuple_at (box_of spaces indices) rank)

-- how many blocks an array has
abbrev pub blocks_of : Spaces → ArrayDecl → ℕ
blocks_of spaces array = volume (box_of spaces array.dims)

-- whether two arrays are of one kind
abbrev pub same_kind : ArrayKind → ArrayKind → Bool
same_kind Static Static = true
same_kind Temp Temp = true
same_kind Local Local = true
same_kind Distributed Distributed = true
same_kind Served Served = true
same_kind _ _ = false

-- whether two classes of shared array are one
abbrev pub same_class : Class → Class → Bool
same_class class.Distributed class.Distributed = true
same_class class.Distributed class.Served = false
same_class class.Served class.Distributed = false
same_class class.Served class.Served = true

-- how many blocks the arrays of a kind have together
abbrev pub blocks_together : Spaces → ArrayKind → List ArrayDecl → ℕ
blocks_together spaces kind arrays = sum_by (blocks_of spaces) (filter (λ a. same_kind a.kind kind) arrays)

-- the number of an array's first block among all blocks of arrays of its kind
abbrev pub first_block : Spaces → List ArrayDecl → ℕ → ArrayKind → ℕ
first_block spaces arrays array kind = blocks_together spaces kind (take array arrays)

-- how many words the block of these segments has
abbrev pub words_in : Spaces → List ℕ → List ℕ → ℕ
words_in spaces [] numbers = 1
words_in spaces (i ∷ is) [] = 1
words_in spaces (i ∷ is) (n ∷ ns) = (segment spaces (kind_of spaces i) n).len * words_in spaces is ns
