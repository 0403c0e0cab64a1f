-- Places and tuples say the same: of boxes, and of the segment numbers of indices.
use Rattle.std.specs.Prelude.{◌≡◌, ℕ, ◌+◌, ◌<◌, ◌≤◌, List, [], ◌∷◌, map, length}
use Rattle.sial_syntax.specs.Boxes.{numbers_from, volume, tuples, place_of, tuple_at, IsTupleOf}
use Rattle.sial_syntax.specs.Spaces.{Spaces, first_of, count_of, box_of, rank_of, numbers_at}

-- each place of a box is that of its tuple
abbrev pub PlaceOfTuple : Type 0
PlaceOfTuple = (dims : List ℕ) (place : ℕ) → place < volume dims → place_of dims (tuple_at dims place) ≡ place

-- each tuple of a box is that at its place
abbrev pub TupleOfPlace : Type 0
TupleOfPlace = (dims tuple : List ℕ) → IsTupleOf dims tuple → tuple_at dims (place_of dims tuple) ≡ tuple

-- the place of a tuple is one of the box's
abbrev pub PlaceWithin : Type 0
PlaceWithin = (dims tuple : List ℕ) → IsTupleOf dims tuple → place_of dims tuple < volume dims

-- at each place of a box is one of its tuples
abbrev pub TupleWithin : Type 0
TupleWithin = (dims : List ℕ) (place : ℕ) → place < volume dims → IsTupleOf dims (tuple_at dims place)

-- the tuples of a box in order are those at its places
abbrev pub TuplesInOrder : Type 0
TuplesInOrder = (dims : List ℕ) → tuples dims ≡ map (tuple_at dims) (numbers_from 0 (volume dims))

-- a box has as many tuples as its volume says
abbrev pub TuplesCounted : Type 0
TuplesCounted = (dims : List ℕ) → length (tuples dims) ≡ volume dims

-- for each index the number of one of its segments
abbrev pub AreSegments : Spaces → List ℕ → List ℕ → Type 0
AreSegments spaces [] [] = Unit {0}
AreSegments spaces [] (n ∷ ns) = ⊥
AreSegments spaces (i ∷ is) [] = ⊥
AreSegments spaces (i ∷ is) (n ∷ ns) = (first_of spaces i ≤ n) × (n < (first_of spaces i + count_of spaces i)) × AreSegments spaces is ns

-- each place in the box of some indices is that of its segment numbers
abbrev pub RankOfNumbers : Type 0
RankOfNumbers = (spaces : Spaces) (indices : List ℕ) (rank : ℕ) → rank < volume (box_of spaces indices) → rank_of spaces indices (numbers_at spaces indices rank) ≡ rank

-- segment numbers are those at their place
abbrev pub NumbersOfRank : Type 0
NumbersOfRank = (spaces : Spaces) (indices numbers : List ℕ) → AreSegments spaces indices numbers → numbers_at spaces indices (rank_of spaces indices numbers) ≡ numbers

-- the place of segment numbers is one of the box's
abbrev pub RankWithin : Type 0
RankWithin = (spaces : Spaces) (indices numbers : List ℕ) → AreSegments spaces indices numbers → rank_of spaces indices numbers < volume (box_of spaces indices)

-- at each place of the box are numbers of the indices' segments
abbrev pub NumbersWithin : Type 0
NumbersWithin = (spaces : Spaces) (indices : List ℕ) (rank : ℕ) → rank < volume (box_of spaces indices) → AreSegments spaces indices (numbers_at spaces indices rank)
