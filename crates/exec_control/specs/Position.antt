-- What a contract sees of a worker's control.
use Rattle.std.specs.Prelude.{ℕ, ◌-◌, List, [], length, replicate, slice_index_or}

-- the instruction at the cursor, the number of each index, for each call in progress where it returns and the numbers that
-- its caller's indices have again, and for each loop in progress its last number; of calls and loops the last to begin stands last
pub record Position : Type 0 where
  pub at : ℕ
  pub values : List ℕ
  pub returns : List ℕ
  pub saved : List (List ℕ)
  pub lasts : List ℕ

-- control before the first instruction, where a program has so many indices
abbrev pub at_start : (indices : ℕ) → Position
at_start indices = record { at = 0; values = replicate indices 0; returns = []; saved = []; lasts = [] }

-- the last number of the last loop that began
abbrev pub innermost : List ℕ → ℕ
innermost lasts = slice_index_or lasts (length lasts - 1) 0
