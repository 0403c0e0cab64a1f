-- How many slots, words and entries worked programs need, as they are worked out by hand.
use Rattle.std.specs.Prelude.{◌≡◌, ◌+◌, ◌*◌, [], ◌∷◌, map, sum}
use Rattle.sial_meaning.specs.Costs.{block_width}
use Rattle.sial_worked.specs.Shape.{shape}
use Rattle.sial_worked.specs.Tight.{tight}
use Rattle.sial_worked.specs.Turns.{turns}
use Rattle.sip_model.specs.declared.options.Options.{Options}
use Rattle.sip_model.specs.Slots.{worker_slots, pool_words, store_words}
use Rattle.sip_model.specs.StepBound.{step_bound}
use Rattle.machine_worked.specs.Big.{big}
use Rattle.machine_worked.specs.Records.{of_workers}

-- two workers that cache four blocks and have two puts under way
abbrev pub two_small : Options
two_small = record (of_workers 2) { cache = 4; puts = 2 }

-- the same with all blocks at worker 0
abbrev pub all_at_one : Options
all_at_one = record two_small { place = 0 ∷ [] }

-- four workers and two servers
abbrev pub four_and_two : Options
four_and_two = record (of_workers 4) { servers = 2 }

-- slots of each worker, words and entries
pub record NeedsAreCounted : Type 0 where
  -- three temps, six places for the cache and the puts, one for a right side: nothing is created, wherever blocks live
  pub shape_slots : map sum (worker_slots shape two_small) ≡ 10 ∷ 10 ∷ []
  pub shape_placed : map sum (worker_slots shape all_at_one) ≡ 10 ∷ 10 ∷ []
  pub shape_words : pool_words shape two_small ≡ 10 + 10 + 16
  pub shape_store : store_words shape ≡ 0
  pub shape_steps : step_bound shape 2 ≡ 0
  -- eight blocks of one array at a time, twenty places, one for a right side; four sync points
  pub turns_slots : map sum (worker_slots turns (of_workers 1)) ≡ (8 + 20 + 1) ∷ []
  pub turns_words : pool_words turns (of_workers 1) ≡ 29 + 16
  pub turns_steps : step_bound turns 1 ≡ 4 * 3
  -- four sync points, a loop of one turn with two `get` and two operands, and a print
  pub tight_steps : step_bound tight 1 ≡ 4 * 3 + (1 * (1 + 1) + 1 * (3 + 3 + (1 + 3 * 2))) + 1
  -- five temps, the larger distributed blocks by fours, twenty places, one for a right side
  pub big_slots : map sum (worker_slots big four_and_two) ≡ 44 ∷ 44 ∷ 44 ∷ 44 ∷ []
  pub big_width : block_width big ≡ 2401
  pub big_words : pool_words big four_and_two ≡ 326928
  pub big_store : store_words big ≡ 160000
  pub big_steps : step_bound big 4 ≡ 6613
