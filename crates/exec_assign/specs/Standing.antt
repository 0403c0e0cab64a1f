-- What a worker holds, as a state of the definitions has it.
use Rattle.std.specs.Prelude.{◌≡◌, ℕ, List}
use Rattle.block_pool.specs.Memory.{Memory}
use Rattle.exec_blocks.specs.Kept.{Kept}
use Rattle.exec_blocks.specs.Standing.{BlocksStand}
use Rattle.exec_scalars.specs.Numbers.{Numbers, AreNumbers}
use Rattle.sial_meaning.specs.Own.{Own}
use Rattle.sial_meaning.specs.Setting.{Setting}

-- these numbers of indices, these scalars and these blocks in a pool are what a worker holds in a state, with its partial scalars
pub record OwnStands (g : Setting) (p : Memory) (n : Numbers) (b : Kept) (values : List ℕ) (own : Own) (partials : List ℕ) : Type 0 where
  pub indices : own.values ≡ values
  pub scalars : AreNumbers n own partials
  pub blocks : BlocksStand g p b own

-- whatever state that is
abbrev pub OfStates : Setting → Memory → Numbers → Kept → (values : List ℕ) → (Own → List ℕ → Type 0) → Type 0
OfStates g p n b values holds = (own : Own) (partials : List ℕ) → OwnStands g p n b values own partials → holds own partials
