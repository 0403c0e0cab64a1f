-- What each result holds, position by position.
use Rattle.std.specs.Prelude.{◌≡◌, ℕ, false, List, length, slice_index}
use Rattle.kernel_permute.specs.declared.how.How.{How}
use Rattle.kernel_permute.specs.How.{combined}
use Rattle.kernel_permute.specs.Inserting.{is_in_part, inserted}
use Rattle.kernel_permute.specs.Permuting.{IsOrder, picked, permuted}
use Rattle.kernel_permute.specs.Positions.{IsPosition, each_number, place, product}
use Rattle.kernel_permute.specs.Slicing.{IsPart, shifted, sliced}

-- the source's number at x has met the target's at the members of x that the order names
abbrev pub PermutesEachPosition : Type 0
PermutesEachPosition =
    (how : How) (dims order from old x : List ℕ)
    → IsOrder order → length order ≡ length dims → length old ≡ product (picked order dims) → IsPosition dims x
    → slice_index (permuted how dims order from old) (place (picked order dims) (picked order x))
    ≡ combined how (slice_index old (place (picked order dims) (picked order x))) (slice_index from (place dims x))

-- the source's number at `at + y` has met the target's at y
abbrev pub SlicesEachPosition : Type 0
SlicesEachPosition =
    (how : How) (dims at size from old y : List ℕ)
    → length old ≡ product size → IsPosition size y
    → slice_index (sliced how dims at size from old) (place size y)
    ≡ combined how (slice_index old (place size y)) (slice_index from (place dims (shifted at y)))

-- the source's number at y has met the target's at `at + y`
abbrev pub InsertsEachPosition : Type 0
InsertsEachPosition =
    (how : How) (size from dims at old y : List ℕ)
    → IsPart at size dims → length old ≡ product dims → IsPosition size y
    → slice_index (inserted how size from dims at old) (place dims (shifted at y))
    ≡ combined how (slice_index old (place dims (shifted at y))) (slice_index from (place size y))

-- outside the part the target's numbers stay
abbrev pub InsertsNoOther : Type 0
InsertsNoOther =
    (how : How) (size from dims at old x : List ℕ)
    → length old ≡ product dims → IsPosition dims x → is_in_part at size x ≡ false
    → slice_index (inserted how size from dims at old) (place dims x) ≡ slice_index old (place dims x)

-- a block keeps its length
abbrev pub KeepsLength : Type 0
KeepsLength = (f : List ℕ → ℕ → ℕ) (dims old : List ℕ) → length old ≡ product dims → length (each_number f dims old) ≡ length old
