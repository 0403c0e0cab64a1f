-- The blocks of an array that slots match, in their order.
use Rattle.std.specs.Prelude.{◌≡◌, ℕ, ◌+◌, ◌-◌, ◌*◌, ◌/◌, ◌%◌, ◌<◌, ◌≤◌, List, [], ◌∷◌, length, map, false, slice_index_or}
use Rattle.index_spaces.specs.Placed.{Placed, array_among, bare, is_temp}
use Rattle.sial_syntax.specs.declared.operand.Slot.{Slot}
use Rattle.sial_syntax.specs.declared.operand.Slot.TheVariants.{At, All}
use Rattle.sial_syntax.specs.Spaces.{Spaces, first_of, count_of}
use Rattle.sial_meaning.specs.Own.{Own}
use Rattle.sial_meaning.specs.Setting.{Setting}

-- spaces, and the numbers of indices, are those of a setting and of what a worker holds
pub record AreOf (g : Setting) (own : Own) (placed : Placed) (numbers : List ℕ) : Type 0 where
  pub spaces : placed.spaces ≡ g.spaces
  pub arrays : placed.arrays ≡ map bare g.program.arrays
  pub values : own.values ≡ numbers

-- there is a slot for each dimension, and an index in one has a segment of the dimension
abbrev pub AreSlots : Spaces → (values dims : List ℕ) → List Slot → Type 0
AreSlots spaces values [] [] = Unit {0}
AreSlots spaces values [] (x ∷ xs) = ⊥
AreSlots spaces values (d ∷ ds) [] = ⊥
AreSlots spaces values (d ∷ ds) (At index ∷ xs) =
    ((first_of spaces d ≤ slice_index_or values index 0) × (slice_index_or values index 0 < first_of spaces d + count_of spaces d)) × AreSlots spaces values ds xs
AreSlots spaces values (d ∷ ds) (All ∷ xs) = AreSlots spaces values ds xs

-- slots match blocks of a declared array that isn't temp
pub record MatchBlocks (placed : Placed) (values : List ℕ) (array : ℕ) (slots : List Slot) : Type 0 where
  pub declared : array < length placed.arrays
  pub counted : is_temp (array_among placed.arrays array) ≡ false
  pub within : AreSlots placed.spaces values (array_among placed.arrays array).dims slots

-- how many segments of a dimension a slot matches
abbrev pub slot_count : Spaces → (dim : ℕ) → Slot → ℕ
slot_count spaces dim (At index) = 1
slot_count spaces dim All = count_of spaces dim

-- the first of them, counted from the first of the dimension
abbrev pub slot_first : Spaces → (values : List ℕ) → (dim : ℕ) → Slot → ℕ
slot_first spaces values dim (At index) = slice_index_or values index 0 - first_of spaces dim
slot_first spaces values dim All = 0

-- how many blocks slots match
abbrev pub matches : Spaces → (dims : List ℕ) → List Slot → ℕ
matches spaces [] slots = 1
matches spaces (d ∷ ds) [] = 0
matches spaces (d ∷ ds) (x ∷ xs) = slot_count spaces d x * matches spaces ds xs

-- the tuple of a matched block in its turn, counted from the firsts, the last dimension fastest
abbrev pub tuple_in_turn : Spaces → (values dims : List ℕ) → List Slot → (turn : ℕ) → List ℕ
tuple_in_turn spaces values [] slots turn = []
tuple_in_turn spaces values (d ∷ ds) [] turn = []
tuple_in_turn spaces values (d ∷ ds) (x ∷ xs) turn =
    (slot_first spaces values d x + turn / matches spaces ds xs) ∷ tuple_in_turn spaces values ds xs (turn % matches spaces ds xs)
