-- Blocks where they are named: the positions that they lie on, and their elements by position.
use Rattle.std.specs.Prelude.{ℕ, ◌+◌, ◌-◌, List, [], ◌∷◌, map, Bool, true, false, ◌==◌, ◌&&◌, ◌||◌, not, if◌then◌else◌, nat_lt, nat_le, Option, Some, None, find, slice_index_or}
use Rattle.sial_syntax.specs.Agreeing.{contains}
use Rattle.sial_syntax.specs.Boxes.{place_of}
use Rattle.sial_syntax.specs.Spaces.{Spaces, Span, Segments, Pieces, Extent, span_of}

-- a block as it is named: its indices, what each lies on, and its elements, the last index fastest
pub record Sight : Type 0 where
  pub at : List ℕ
  pub extents : List Extent
  pub words : List ℕ

-- a position for each of some indices
abbrev pub Places : Type 0
Places = List (ℕ × ℕ)

-- whether a span is the pieces of this index
abbrev pub is_pieces_of : Span → ℕ → Bool
is_pieces_of (Segments kind first count) index = false
is_pieces_of (Pieces super) index = super == index

-- whether an index cuts the segments of another
abbrev pub cuts : Spaces → (sub index : ℕ) → Bool
cuts spaces sub index = is_pieces_of (span_of spaces sub) index

-- a position that was found, or 0
abbrev pub found_or_none : Option (ℕ × ℕ) → ℕ
found_or_none None = 0
found_or_none (Some p) = p.1

-- the position under the index itself, and else another
abbrev pub itself_or : Option (ℕ × ℕ) → Option (ℕ × ℕ) → ℕ
itself_or None other = found_or_none other
itself_or (Some p) other = p.1

-- whether an index stands for another of a block with these indices: it cuts it or is cut by it, and the block doesn't name it
abbrev pub stands_for : Spaces → List ℕ → (index other : ℕ) → Bool
stands_for spaces own index other = not (contains own other) && (cuts spaces other index || cuts spaces index other)

-- the position that an index of a block with these indices has among places: under the index itself, and else under the one that stands for it
abbrev pub position : Spaces → List ℕ → Places → ℕ → ℕ
position spaces own places index = itself_or (find (λ p. p.0 == index) places) (find (λ p. stands_for spaces own index p.0) places)

-- whether a position lies on an extent
abbrev pub lies_on : Extent → ℕ → Bool
lies_on extent position = nat_le extent.start position && nat_lt position (extent.start + extent.len)

-- whether each position lies on its extent
abbrev pub all_lie : List Extent → List ℕ → Bool
all_lie [] positions = true
all_lie (e ∷ es) [] = false
all_lie (e ∷ es) (p ∷ ps) = lies_on e p && all_lie es ps

-- positions counted from the starts of their extents
abbrev pub offsets : List Extent → List ℕ → List ℕ
offsets [] positions = []
offsets (e ∷ es) [] = []
offsets (e ∷ es) (p ∷ ps) = (p - e.start) ∷ offsets es ps

-- how many positions each extent has
abbrev pub lengths : List Extent → List ℕ
lengths extents = map (λ (e : Extent). e.len) extents

-- the element of a block at offsets
abbrev pub word_at : Sight → List ℕ → ℕ
word_at sight tuple = slice_index_or sight.words (place_of (lengths sight.extents) tuple) 0

-- the positions of a block's own indices, taken by name
abbrev pub positions_of : Spaces → Places → Sight → List ℕ
positions_of spaces places sight = map (position spaces sight.at places) sight.at

-- the element of a block at places, none where they lie outside of it
abbrev pub element : Spaces → Places → Sight → Option ℕ
element spaces places sight =
    if all_lie sight.extents (positions_of spaces places sight)
    then Some (word_at sight (offsets sight.extents (positions_of spaces places sight)))
    else None

-- the places that a tuple of offsets names
abbrev pub places_at : List (ℕ × Extent) → List ℕ → Places
places_at [] tuple = []
places_at (d ∷ ds) [] = []
places_at (d ∷ ds) (k ∷ ks) = (d.0, d.1.start + k) ∷ places_at ds ks
