-- What the calls of a worker need of its work beside that they stand for it: granted programs keep it from step to step.
use Rattle.std.specs.Prelude.{ℕ, List}
use Rattle.block_pool.specs.Memory.{Memory}
use Rattle.sial_meaning.proofs.Granted.Ranges.{InRange}
use Rattle.sial_meaning.proofs.StatesAreWhole.Rest.{GoodRest}
use Rattle.sial_meaning.specs.Own.{Own}
use Rattle.sial_meaning.specs.Rest.{Rest}
use Rattle.sial_meaning.specs.Setting.{Setting}
use Rattle.sial_meaning.specs.WholeStates.{OwnIsWhole}
use Rattle.exec_core.specs.Parts.{Parts}
use Rattle.exec_core.specs.Stands.{LocalStands}

-- the statements of the work break no rule where these indices are bound, each to a number within its range, and all blocks are whole
pub record RunsWell (g : Setting) (rest : Rest) (own : Own) : Type 0 where
  pub indices : List ℕ
  pub in_range : InRange g indices own.values
  pub good : GoodRest g indices rest
  pub whole : OwnIsWhole g own

-- a worker stands for some such work
pub record AtWork (g : Setting) (p : Memory) (l : Parts) : Type 0 where
  pub rest : Rest
  pub own : Own
  pub partials : List ℕ
  pub stands : LocalStands g p l rest own partials
  pub runs_well : RunsWell g rest own
