-- The product of two small matrices, kept by rows.
use Rattle.std.specs.Prelude.{ℕ, ◌≡◌, ◌+◌, ◌*◌, ◌%◌, ◌^◌, ◌<◌, ◌≤◌, List, [], slice_index, slice_index_or}
use Rattle.kernel_contract.specs.Sum.{sum_to}

-- a row of a matrix
abbrev pub row_of : List (List ℕ) → ℕ → List ℕ
row_of matrix i = slice_index_or matrix i []

-- the number in a row at a column
abbrev pub entry : List (List ℕ) → ℕ → ℕ → ℕ
entry matrix i j = slice_index (row_of matrix i) j

-- the sum over the first `s` positions of a row, times those of a column of `b`
abbrev pub row_by : List ℕ → List (List ℕ) → ℕ → ℕ → ℕ
row_by row b s j = sum_to s (λ k. slice_index row k * entry b k j)

-- the product of the front parts of `a` and `b` is added, modulo 2^64, to the front `m` by `n` part
abbrev pub Multiplied : ℕ → ℕ → ℕ → List (List ℕ) → List (List ℕ) → List (List ℕ) → List (List ℕ) → Type 0
Multiplied m n s a b old new =
    (i j : ℕ) → i < m → j < n → entry new i j ≡ (entry old i j + row_by (row_of a i) b s j) % 2 ^ 64

-- outside the front `m` by `n` part nothing has changed
pub record SameBehind (m n : ℕ) (old new : List (List ℕ)) : Type 0 where
  pub rows : (i j : ℕ) → m ≤ i → entry new i j ≡ entry old i j
  pub columns : (i j : ℕ) → n ≤ j → entry new i j ≡ entry old i j

-- the front `m` by `n` part is `part`, and nothing else has changed
pub record FrontSet (m n : ℕ) (part old new : List (List ℕ)) : Type 0 where
  pub front : (i j : ℕ) → i < m → j < n → entry new i j ≡ entry part i j
  pub behind : SameBehind m n old new
