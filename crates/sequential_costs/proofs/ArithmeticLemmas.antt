-- Sums that are kept at the limit.
use Rattle.std.proofs.Common.{◌≡◌, ℕ, zero, suc, ◌+◌, ◌-◌, ◌*◌, ◌^◌, ◌<◌, ◌≤◌, min, Bool, true, false, refl, ap, ◌∙◌, arith}
use Rattle.std.specs.Prelude.{nat_le}
use Rattle.std.proofs.lemmas.Bool.Decides.{nat_tests}
use Rattle.sial_meaning.specs.Costs.{capped}

-- a summand that is kept at the end of its type
pub turns_kept : (head n : ℕ) → capped (head + min n (2 ^ 64 - 1)) ≡ capped (head + n)
turns_kept head n = omega arith

-- each turn has a step of its own
at_least : (v b : ℕ) → v ≤ v * (1 + b)
at_least zero b = omega arith
at_least (suc v) b = let before = at_least v b in omega (arith, before)

-- the same of the number of turns
pub box_kept : (v b : ℕ) → capped (2 + min v (2 ^ 64 - 1) * (1 + b)) ≡ capped (2 + v * (1 + b))
box_kept v b = by (nat_le v (2 ^ 64 - 1)) refl
  where
    by : (t : Bool) → nat_le v (2 ^ 64 - 1) ≡ t → capped (2 + min v (2 ^ 64 - 1) * (1 + b)) ≡ capped (2 + v * (1 + b))
    by true e =
        let small : v ≤ 2 ^ 64 - 1 = grind (arith, nat_tests) in
        let same : min v (2 ^ 64 - 1) ≡ v = omega (arith, small) in
        ap (λ x. capped (2 + x * (1 + b))) same
    by false e =
        let big : 2 ^ 64 - 1 < v = grind (arith, nat_tests) in
        let same : min v (2 ^ 64 - 1) ≡ 2 ^ 64 - 1 = omega (arith, big) in
        let here = at_least (2 ^ 64 - 1) b in
        let there = at_least v b in
        let both : capped (2 + (2 ^ 64 - 1) * (1 + b)) ≡ capped (2 + v * (1 + b)) = omega (arith, here, there, big) in
        ap (λ x. capped (2 + x * (1 + b))) same ∙ both
