-- What a worker stands for: the rest of its work, what it holds of its own, and its partial scalars.
use Rattle.std.specs.Prelude.{◌≡◌, ℕ, List, Bool, true, false}
use Rattle.block_pool.specs.Memory.{Memory}
use Rattle.exec_blocks.specs.Standing.{AreIn, BlocksStand}
use Rattle.exec_control.specs.Stands.{ControlStands}
use Rattle.exec_scalars.specs.Numbers.{AreNumbers}
use Rattle.sial_meaning.specs.Own.{Own}
use Rattle.sial_meaning.specs.Rest.{Rest, Over, Next, Turn, Join, Back, Within}
use Rattle.sial_meaning.specs.Setting.{Setting}
use Rattle.exec_core.specs.Parts.{Parts}

-- a worker, whose blocks stand in a pool, stands for this rest of the work and for what the definitions have it hold
pub record LocalStands (g : Setting) (p : Memory) (l : Parts) (rest : Rest) (own : Own) (partials : List ℕ) : Type 0 where
  pub control : ControlStands g l.control rest own
  pub scalars : AreNumbers l.scalars own partials
  pub seated : AreIn g p l.blocks
  pub blocks : BlocksStand g p l.blocks own
  pub created : l.created ≡ own.created

-- whatever a worker stands for
abbrev pub OfWorks : Setting → Memory → Parts → (Rest → Own → List ℕ → Type 0) → Type 0
OfWorks g p l holds = (rest : Rest) (own : Own) (partials : List ℕ) → LocalStands g p l rest own partials → holds rest own partials

-- a worker is somewhere in its work
pub record HasWork (g : Setting) (l : Parts) : Type 0 where
  pub rest : Rest
  pub own : Own
  pub stands : ControlStands g l.control rest own

-- whether no work is left
abbrev pub is_over : Rest → Bool
is_over (Over at) = true
is_over (Next at line form rest) = false
is_over (Turn loop last rest) = false
is_over (Join at rest) = false
is_over (Back at values rest) = false
is_over (Within pardo number rest) = false
