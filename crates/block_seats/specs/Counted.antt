-- How many places have a block, how many of a run of places have none, and whether there is room for those.
use Rattle.std.specs.Prelude.{ℕ, zero, suc, ◌+◌, ◌≤◌, List, [], ◌∷◌, length, is_some, is_none, Option}
use Rattle.block_pool.specs.Memory.{Memory, free_in, last_class, one_if}
use Rattle.block_pool.specs.Standing.{lease_at}
use Rattle.block_seats.specs.Seated.{Seated, SeatsStand}

-- how many places have a block
abbrev pub held_count : (slots : List (Option ℕ)) → ℕ
held_count [] = 0
held_count (slot ∷ slots) = one_if (is_some slot) + held_count slots

-- how many of so many places from one on have none
abbrev pub empty_count : (slots : List (Option ℕ)) → (from count : ℕ) → ℕ
empty_count slots from zero = 0
empty_count slots from (suc n) = one_if (is_none (lease_at slots from)) + empty_count slots (from + 1) n

-- a pool has room for a block at each of so many places from one on: a slot is free for each of them that has none
pub record HasRunRoom (p : Memory) (s : Seated) (first count : ℕ) : Type 0 where
  pub stands : SeatsStand p s
  pub within : first + count ≤ length s.slots
  pub free : empty_count s.slots first count ≤ free_in p last_class
