-- What a change of the block at one place does.
use Rattle.std.specs.Prelude.{◌≡◌, ◌≢◌, ℕ, List, length, Option}
use Rattle.block_pool.specs.Memory.{Memory}
use Rattle.block_seats.specs.Leaving.{Leaves}
use Rattle.block_seats.specs.Seated.{Seated, SeatsStand, block_at}

-- the block at one place is this now, none where a block was taken away, and those at all other places are as before
pub record Puts (old new : Memory) (before after : Seated) (place : ℕ) (words : Option (List ℕ)) : Type 0 where
  pub stands : SeatsStand new after
  pub here : block_at new after place ≡ words
  pub others : (other : ℕ) → other ≢ place → block_at new after other ≡ block_at old before other
  pub places : length after.slots ≡ length before.slots
  pub leaves : Leaves old new before.slots after.slots
