-- Numbers: whole numbers below 2^64, with sums, differences and products modulo 2^64.
use Rattle.std.specs.Prelude.{ℕ, ◌+◌, ◌-◌, ◌*◌, ◌%◌, ◌^◌, max}
use Rattle.sial_syntax.specs.declared.operand.Op.{Op}
use Rattle.sial_syntax.specs.declared.operand.Op.TheVariants.{Set, Add, Subtract, Scale}
use Rattle.sial_syntax.specs.declared.access.Access.{Access}
use Rattle.sial_syntax.specs.declared.access.Access.TheVariants as access

-- the sum
abbrev pub plus : ℕ → ℕ → ℕ
plus a b = (a + b) % 2 ^ 64

-- the difference
abbrev pub minus : ℕ → ℕ → ℕ
minus a b = (a + (2 ^ 64 - b)) % 2 ^ 64

-- the product
abbrev pub times : ℕ → ℕ → ℕ
times a b = (a * b) % 2 ^ 64

-- what an assignment makes of its target's old number
abbrev pub combined : Op → ℕ → ℕ → ℕ
combined Set old value = value
combined Add old value = plus old value
combined Subtract old value = minus old value
combined Scale old value = times old value

-- what an access makes of a shared number
abbrev pub accessed : Access → ℕ → ℕ → ℕ
accessed access.Read old value = old
accessed access.Add old value = plus old value
accessed access.Max old value = max old value
accessed access.Store old value = value
