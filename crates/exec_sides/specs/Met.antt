-- What an assignment leaves in its target, number by number.
use Rattle.std.specs.Prelude.{◌≡◌, ℕ, List, length}
use Rattle.kernel_permute.specs.How.{combined}
use Rattle.kernel_permute.specs.declared.how.How.{How}
use Rattle.sial_syntax.specs.Boxes.{IsTupleOf}
use Rattle.exec_sides.specs.Named.{number_at}

-- the number at each tuple of a target has met the value there, and none is lost
pub record Met (how : How) (dims : List ℕ) (value : List ℕ → ℕ) (old new : List ℕ) : Type 0 where
  pub each : (tuple : List ℕ) → IsTupleOf dims tuple → number_at dims new tuple ≡ combined how (number_at dims old tuple) (value tuple)
  pub len : length new ≡ length old
