-- Statements one after another.
use Rattle.std.proofs.Common.{◌≡◌, ℕ, ◌+◌, ◌^◌, ◌≤◌, arith}
use Rattle.sial_syntax.specs.Tree.{Block, End, Then}
use Rattle.sial_meaning.specs.Costs.{block_cost, capped}
use Rattle.sial_meaning.specs.Setting.{Setting}

-- a sum of steps is kept at the limit
pub at_most : (g : Setting) (c : ℕ → ℕ) (b : Block) → block_cost g c b ≤ 2 ^ 62 + 1
at_most g c End = omega arith
at_most g c (Then line form rest) = omega arith

-- it is no matter when it is kept there
pub one_more : (sum form rest : ℕ) → capped (capped (sum + form) + rest) ≡ capped (sum + capped (form + rest))
one_more sum form rest = omega arith
