-- What assignments to a block read back: copies in another order, slices and insertions, element by element.
use Rattle.std.specs.Prelude.{◌≡◌, ℕ, List, [], ◌∷◌, map, zip, length, Bool, true, false, ◌==◌, ◌&&◌, ◌||◌, if◌then◌else◌}
use Rattle.sial_syntax.specs.Agreeing.{all_in, has_twice}
use Rattle.sial_syntax.specs.Boxes.{volume, IsTupleOf}
use Rattle.sial_syntax.specs.Spaces.{Spaces, extent}
use Rattle.sial_syntax.specs.declared.operand.Op.{Op}
use Rattle.sial_meaning.specs.LocalStep.{whole_positions}
use Rattle.sial_meaning.specs.Number.{combined}
use Rattle.sial_meaning.specs.Right.{Side, Alone, Shown, side_at, met, assigned}
use Rattle.sial_meaning.specs.Sight.{Sight, Places, cuts, all_lie, offsets, lengths, word_at, places_at}

-- a block with these indices as they have numbers now
abbrev pub named_block : Spaces → (values at words : List ℕ) → Sight
named_block spaces values at words = record { at = at; extents = map (extent spaces values) at; words = words }

-- the places that a tuple of offsets of a block names
abbrev pub places_in : Sight → List ℕ → Places
places_in block tuple = places_at (zip block.at block.extents) tuple

-- a block after an assignment
abbrev pub after_assignment : Spaces → Op → Sight → Side → Sight
after_assignment spaces op target side = record { at = target.at; extents = target.extents; words = assigned spaces op target side }

-- each element of the result is the old one, met by the right side's number at the element's places
abbrev pub EachElementIsMet : Type 0
EachElementIsMet =
    (spaces : Spaces) (op : Op) (target : Sight) (side : Side) (tuple : List ℕ)
    → IsTupleOf (lengths target.extents) tuple
    → word_at (after_assignment spaces op target side) tuple ≡ met op (word_at target tuple) (side_at spaces (places_in target tuple) side)

-- the result has as many elements as the block has positions
abbrev pub AsManyElements : Type 0
AsManyElements = (spaces : Spaces) (op : Op) (target : Sight) (side : Side) → length (assigned spaces op target side) ≡ volume (lengths target.extents)

-- the member of a tuple that stands under an index
abbrev pub under : List ℕ → List ℕ → ℕ → ℕ
under [] tuple index = 0
under (i ∷ is) [] index = 0
under (i ∷ is) (k ∷ ks) index = if i == index then k else under is ks index

-- a copy, its indices in any order: no index stands twice in the target, and each of the source's stands in the target
abbrev pub CopiesByName : Type 0
CopiesByName =
    (spaces : Spaces) (op : Op) (values to from old words tuple : List ℕ)
    → has_twice to ≡ false → all_in from to ≡ true → IsTupleOf (lengths (map (extent spaces values) to)) tuple
    → word_at (after_assignment spaces op (named_block spaces values to old) (Alone (Shown (named_block spaces values from words)))) tuple
    ≡ combined op (word_at (named_block spaces values to old) tuple) (word_at (named_block spaces values from words) (map (under to tuple) from))

-- whether a block cuts another: position by position the same index, or the first's cuts the second's
abbrev pub cuts_each : Spaces → (parts wholes : List ℕ) → Bool
cuts_each spaces [] [] = true
cuts_each spaces [] (w ∷ ws) = false
cuts_each spaces (x ∷ xs) [] = false
cuts_each spaces (x ∷ xs) (w ∷ ws) = ((x == w) || cuts spaces x w) && cuts_each spaces xs ws

-- no subindex cuts a subindex
abbrev pub NoPartOfPart : Spaces → Type 0
NoPartOfPart spaces = (a b c : ℕ) → cuts spaces a b ≡ true → cuts spaces b c ≡ true → ⊥

-- the element of a block at whole positions
abbrev pub word_of : Sight → (positions : List ℕ) → ℕ
word_of block positions = word_at block (offsets block.extents positions)

-- a slice: each element is the source's at the same whole positions
abbrev pub SlicesByPosition : Type 0
SlicesByPosition =
    (spaces : Spaces) (op : Op) (values to from old words tuple : List ℕ)
    → NoPartOfPart spaces → has_twice to ≡ false → has_twice from ≡ false → cuts_each spaces to from ≡ true → IsTupleOf (lengths (map (extent spaces values) to)) tuple
    → word_at (after_assignment spaces op (named_block spaces values to old) (Alone (Shown (named_block spaces values from words)))) tuple
    ≡ combined op (word_at (named_block spaces values to old) tuple) (word_of (named_block spaces values from words) (whole_positions (map (extent spaces values) to) tuple))

-- an insertion: the elements at the source's positions are the source's
abbrev pub InsertsByPosition : Type 0
InsertsByPosition =
    (spaces : Spaces) (op : Op) (values to from old words tuple : List ℕ)
    → NoPartOfPart spaces → has_twice to ≡ false → has_twice from ≡ false → cuts_each spaces from to ≡ true → IsTupleOf (lengths (map (extent spaces values) to)) tuple
    → all_lie (map (extent spaces values) from) (whole_positions (map (extent spaces values) to) tuple) ≡ true
    → word_at (after_assignment spaces op (named_block spaces values to old) (Alone (Shown (named_block spaces values from words)))) tuple
    ≡ combined op (word_at (named_block spaces values to old) tuple) (word_of (named_block spaces values from words) (whole_positions (map (extent spaces values) to) tuple))

-- an insertion: all other elements stay
abbrev pub InsertionsKeepOthers : Type 0
InsertionsKeepOthers =
    (spaces : Spaces) (op : Op) (values to from old words tuple : List ℕ)
    → NoPartOfPart spaces → has_twice to ≡ false → has_twice from ≡ false → cuts_each spaces from to ≡ true → IsTupleOf (lengths (map (extent spaces values) to)) tuple
    → all_lie (map (extent spaces values) from) (whole_positions (map (extent spaces values) to) tuple) ≡ false
    → word_at (after_assignment spaces op (named_block spaces values to old) (Alone (Shown (named_block spaces values from words)))) tuple ≡ word_at (named_block spaces values to old) tuple
