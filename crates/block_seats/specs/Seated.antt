-- Blocks by place, each in a slot of a pool.
use Rattle.std.specs.Prelude.{◌≡◌, ℕ, ◌<◌, ◌≤◌, List, length, take, replicate, slice_index_or, Option, Some, None}
use Rattle.std.specs.Option.{option_map}
use Rattle.block_pool.specs.declared.state.State.TheVariants.{Owned}
use Rattle.block_pool.specs.Memory.{Memory, words_at, last_class}
use Rattle.block_pool.specs.Changes.{IsMemory}
use Rattle.block_pool.specs.Standing.{Holds, Named, lease_at}

-- place by place the slot of the block that is there, and how many of the slot's words are the block's
pub record Seated : Type 0 where
  pub slots : List (Option ℕ)
  pub lens : List ℕ

-- so many places without a block
abbrev pub empty : ℕ → Seated
empty places = record { slots = replicate places None; lens = replicate places 0 }

-- the words of the block at a place, none where no block is
abbrev pub block_at : Memory → Seated → (place : ℕ) → Option (List ℕ)
block_at p s place = option_map (λ slot. take (slice_index_or s.lens place 0) (words_at p.words slot)) (lease_at s.slots place)

-- each slot of a pool has at least so many words
abbrev pub IsWide : Memory → (len : ℕ) → Type 0
IsWide p len = (slot : ℕ) → slot < length p.words → len ≤ length (words_at p.words slot)

-- the blocks stand in a pool: each has a slot of its own, which is wide enough and one that the last class names
pub record SeatsStand (p : Memory) (s : Seated) : Type 0 where
  pub sound : IsMemory p
  pub holds : Holds p Owned s.slots
  pub named : Named p last_class s.slots
  pub fits : (place slot : ℕ) → lease_at s.slots place ≡ Some slot → slice_index_or s.lens place 0 ≤ length (words_at p.words slot)
  pub listed : length s.lens ≡ length s.slots
