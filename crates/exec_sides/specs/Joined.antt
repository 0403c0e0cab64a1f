-- Two blocks that meet a target one after the other.
use Rattle.std.specs.Prelude.{◌≡◌, ℕ, List, length, Bool, true, false}
use Rattle.kernel_permute.specs.How.{combined}
use Rattle.kernel_permute.specs.declared.how.How.{How}
use Rattle.kernel_permute.specs.declared.how.How.TheVariants.{Add, Subtract}
use Rattle.sial_syntax.specs.Boxes.{IsTupleOf}
use Rattle.sial_meaning.specs.Number.{minus, plus, times}
use Rattle.sial_syntax.specs.declared.operand.Bin.{Bin}
use Rattle.sial_syntax.specs.declared.operand.Bin.TheVariants.{Plus, Minus, Times, Outer}
use Rattle.exec_sides.specs.Named.{number_at}

-- the sum of two numbers, or their difference
abbrev pub joined : Bool → ℕ → ℕ → ℕ
joined false a b = plus a b
joined true a b = minus a b

-- how the second meets what the first has met
abbrev pub second_of : Bool → How
second_of false = Add
second_of true = Subtract

-- the number at each tuple has met one value, and then another
pub record BothMet (how second : How) (dims : List ℕ) (first other : List ℕ → ℕ) (old new : List ℕ) : Type 0 where
  pub each : (tuple : List ℕ) → IsTupleOf dims tuple → number_at dims new tuple ≡ combined second (combined how (number_at dims old tuple) (first tuple)) (other tuple)
  pub len : length new ≡ length old

-- what two numbers come to
abbrev pub of_numbers : Bin → ℕ → ℕ → ℕ
of_numbers Plus a b = plus a b
of_numbers Minus a b = minus a b
of_numbers Times a b = times a b
of_numbers Outer a b = times a b
