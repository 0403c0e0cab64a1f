-- What a holder of owned slots leaves of a pool to others, where it changes its own.
use Rattle.std.specs.Prelude.{◌≡◌, ◌≢◌, ℕ, ◌+◌, List, Option}
use Rattle.block_pool.specs.declared.state.State.{State}
use Rattle.block_pool.specs.declared.state.State.TheVariants.{Free, Owned}
use Rattle.block_pool.specs.Memory.{Memory, free_in}
use Rattle.block_pool.specs.Standing.{Keeps, Frames, named_count}
use Rattle.block_seats.specs.Seated.{IsWide}

-- the holder's slots were these and are those; others keep theirs with their words, and a slot that isn't held is free
pub record Leaves (old new : Memory) (xs ys : List (Option ℕ)) : Type 0 where
  pub owned : Frames old new xs ys
  pub others : (s : State) (zs : List (Option ℕ)) (ws : List (Option (List ℕ))) → s ≢ Free → s ≢ Owned → Keeps old s zs ws → Keeps new s zs ws
  pub wide : (len : ℕ) → IsWide old len → IsWide new len
  pub free : (class : ℕ) → free_in new class + named_count new class ys ≡ free_in old class + named_count old class xs
  pub lifted : new.is_lifted ≡ old.is_lifted
  pub widest : new.widest ≡ old.widest
  pub most : new.most ≡ old.most
