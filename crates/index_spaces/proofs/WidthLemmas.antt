-- The numbers of a row, one after another.
use Rattle.std.proofs.Common.{◌≡◌, ℕ, suc, ◌+◌, ◌-◌, ◌<◌, ◌∷◌, ap, ◌∙◌, arith}
use Rattle.sial_syntax.specs.Boxes.{numbers_from}

-- the first of the numbers that are left, and the others
pub one_turn : (first k n : ℕ) → k < n → numbers_from (first + k) (n - k) ≡ (first + k) ∷ numbers_from (first + (k + 1)) (n - (k + 1))
one_turn first k n within =
    let more : n - k ≡ suc (n - (k + 1)) = omega arith in
    let next : (first + k) + 1 ≡ first + (k + 1) = omega arith in
    ap (numbers_from (first + k)) more ∙ ap (λ (m : ℕ). (first + k) ∷ numbers_from m (n - (k + 1))) next
