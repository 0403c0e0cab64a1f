-- Remainders of sums.
use Rattle.std.proofs.Common.{◌≡◌, ℕ, ◌+◌, ◌-◌, ◌*◌, ◌/◌, ◌%◌, ◌<◌, zero, suc, arith, ap, sym, ◌∙◌}
use Rattle.std.proofs.Math.Nat.{add-mod-mod, mod-add-mod, add-mul-mod_self_left, div-add-mod}

-- what is added may be reduced before
pub mod_both : (x y w : ℕ) → (x % w + y % w) % w ≡ (x + y) % w
mod_both x y w = mod-add-mod x w (y % w) ∙ add-mod-mod x y w

-- what was added can be taken away again
pub mod_undo : (p x w : ℕ) → 0 < w → ((p + x) % w + (w - x % w)) % w ≡ p % w
mod_undo p x w pos =
    let whole : w * (x / w) + x % w ≡ x = div-add-mod x w in
    let less : x % w < w = omega arith in
    let shape : p + x + (w - x % w) ≡ p + w * (x / w + 1) = omega arith in
    mod-add-mod (p + x) w (w - x % w) ∙ ap (λ t. t % w) shape ∙ add-mul-mod_self_left p w (x / w + 1)

-- so it cancels
pub mod_cancel : (p q x w : ℕ) → 0 < w → (p + x) % w ≡ (q + x) % w → p % w ≡ q % w
mod_cancel p q x w pos e = sym (mod_undo p x w pos) ∙ ap (λ t. (t + (w - x % w)) % w) e ∙ mod_undo q x w pos

-- a product with a number below it has no factor 0
pub factor_pos : (k n c : ℕ) → k < n * c → 0 < c
factor_pos k n zero h = absurd (omega arith)
factor_pos k n (suc c) h = omega arith
