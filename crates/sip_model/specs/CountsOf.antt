-- What a run needs at the most, as the code's counts have it, and the limits of these numbers.
use Rattle.std.specs.Prelude.{◌≡◌, ℕ, ◌^◌, ◌≤◌}
use Rattle.sial_meaning.specs.Costs.{block_width}
use Rattle.sial_meaning.specs.Setting.{Setting}
use Rattle.sip_model.specs.declared.counts.Counts.{Counts}
use Rattle.sip_model.specs.declared.options.Options.{Options}
use Rattle.sip_model.specs.SizeClasses.{widths}
use Rattle.sip_model.specs.Slots.{worker_slots, pool_words, store_words}
use Rattle.sip_model.specs.StepBound.{step_bound}

-- counts are those of a program under some options
pub record AreCountsOf (c : Counts) (g : Setting) (o : Options) : Type 0 where
  pub widths_are : c.widths ≡ widths g
  pub slots_are : c.worker_slots.items ≡ worker_slots g o
  pub words_are : c.words ≡ block_width g
  pub pool_is : c.pool_words ≡ pool_words g o
  pub store_is : c.store_words ≡ store_words g
  pub steps_are : c.steps ≡ step_bound g o.workers

-- words of all pools, and of the store
abbrev pub most_room : ℕ
most_room = 2 ^ 26

-- entries of a run
abbrev pub most_steps : ℕ
most_steps = 2 ^ 62

-- what a run needs is within the limits
pub record HasRoom (g : Setting) (o : Options) : Type 0 where
  pub pool : pool_words g o ≤ most_room
  pub store : store_words g ≤ most_room
  pub steps : step_bound g o.workers ≤ most_steps
