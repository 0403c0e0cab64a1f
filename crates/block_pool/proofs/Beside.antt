-- A block beside another slot of its pool, which a test takes and writes.
use Rattle.std.proofs.Common.{◌≢◌, ℕ, List}
use Rattle.block_pool.specs.declared.state.State.{State}
use Rattle.block_pool.specs.declared.state.State.TheVariants.{Owned}
use Rattle.block_pool.specs.Memory.{Memory}
use Rattle.block_pool.specs.Changes.{Stands, Takes, Writes}
use Rattle.block_pool.proofs.OneChange.{stands_other}
use Rattle.block_pool.proofs.Taking.{taken_apart}

-- a block beside a slot of the same pool
pub record Beside (p : Memory) (block into : ℕ) : Type 0 where
  pub stands : Stands p Owned block
  pub apart : block ≢ into

-- stays so where that slot is taken
pub beside_taken : (class : ℕ) (p p1 : Memory) (block into : ℕ) (s : State) (ws : List ℕ) → Stands p Owned block → Takes class p p1 into s ws → Beside p1 block into
beside_taken class p p1 block into s ws st took =
    let apart = taken_apart class p p1 into s ws took block st in
    record { stands = stands_other took.changes st apart; apart = apart }

-- or written
pub beside_written : (p p1 : Memory) (block into : ℕ) (s : State) (ws : List ℕ) → Beside p block into → Writes p p1 into s ws → Beside p1 block into
beside_written p p1 block into s ws b w = record { stands = stands_other w.changes b.stands b.apart; apart = b.apart }
