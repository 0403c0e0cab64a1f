-- What a contract sees of one worker.
use Rattle.std.specs.Prelude.{List, Bool}
use Rattle.exec_blocks.specs.Kept.{Kept}
use Rattle.exec_control.specs.Position.{Position}
use Rattle.exec_scalars.specs.Numbers.{Numbers}

-- where it is in its program, its scalars, its own blocks, and for each array whether it is created
pub record Parts : Type 0 where
  pub control : Position
  pub scalars : Numbers
  pub blocks : Kept
  pub created : List Bool
