-- Panels: the numbers of four rows, or of four columns, at each shared position of a part.
use Rattle.std.specs.Prelude.{ℕ, ◌≡◌, ◌+◌, ◌/◌, ◌%◌, ◌^◌, ◌<◌, List, [], slice_index, slice_index_or}
use Rattle.kernel_contract.specs.Product.{entry}

-- the number at the sum of an offset and a position's offset
abbrev pub loaded : List ℕ → List ℕ → List ℕ → ℕ → ℕ → ℕ
loaded from lanes positions k i = slice_index from ((slice_index positions k + slice_index lanes i) % 2 ^ 64)

-- the first offsets at the first positions lie in a list of this length
abbrev pub Loads : List ℕ → List ℕ → (lanes positions len : ℕ) → Type 0
Loads offsets at lanes positions len = (k i : ℕ) → k < positions → i < lanes → (slice_index at k + slice_index offsets i) % 2 ^ 64 < len

-- a panel has the numbers of its four offsets at the first positions
abbrev pub IsPanel : List ℕ → List ℕ → List ℕ → (positions : ℕ) → List (List ℕ) → Type 0
IsPanel from lanes at positions panel = (k i : ℕ) → k < positions → i < 4 → entry panel k i ≡ loaded from lanes at k i

-- the number in a row of panels, four columns each
abbrev pub column_entry : List (List (List ℕ)) → ℕ → ℕ → ℕ
column_entry panels k j = entry (slice_index_or panels (j / 4) []) k (j % 4)

-- panels have the numbers of the first columns at the first positions
abbrev pub ArePanels : List ℕ → List ℕ → List ℕ → (columns positions : ℕ) → List (List (List ℕ)) → Type 0
ArePanels from lanes at columns positions panels = (k j : ℕ) → k < positions → j < columns → column_entry panels k j ≡ loaded from lanes at k j
