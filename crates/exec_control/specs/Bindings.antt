-- What a contract sees of index numbers.
use Rattle.std.specs.Prelude.{◌≡◌, ℕ, ◌<◌, List, [], take, length, slice_index_or, All}

-- the number of each index, and the numbers that the callers of the calls in progress get back, those of the last call last
pub record Bindings : Type 0 where
  pub values : List ℕ
  pub saved : List (List ℕ)

-- the bindings where so many calls are in progress: a row of numbers for each caller, and behind them that of the last call
abbrev pub bindings_at : (rows : List (List ℕ)) → (depth : ℕ) → Bindings
bindings_at rows depth = record { values = slice_index_or rows depth []; saved = take depth rows }

-- rows for 16 calls and for none, each with as many numbers as the first
pub record AreRows (rows : List (List ℕ)) (depth : ℕ) : Type 0 where
  pub count : length rows ≡ 17
  pub within : depth < 17
  pub long : All (λ row. length row ≡ length (slice_index_or rows 0 [])) rows
