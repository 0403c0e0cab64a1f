-- Products and quotients that stay within their types.
use Rattle.std.proofs.Common.{◌≡◌, ℕ, zero, suc, ◌+◌, ◌-◌, ◌*◌, ◌/◌, ◌^◌, ◌<◌, ◌≤◌, min, Bool, true, false, refl, ap, ◌∙◌, arith}
use Rattle.std.specs.Prelude.{nat_le}
use Rattle.std.proofs.Math.Nat.{div-le_self, mul-le-mul}
use Rattle.std.proofs.lemmas.Bool.Decides.{nat_tests}

-- a product kept at a bound is the same where its second part was kept there before
pub min_product : (n v most : ℕ) → min (n * min v most) most ≡ min (n * v) most
min_product n v most = by (nat_le v most) refl
  where
    large : (k : ℕ) → most < v → min (k * most) most ≡ min (k * v) most
    large zero h = omega arith
    large (suc k) h = omega arith

    by : (b : Bool) → nat_le v most ≡ b → min (n * min v most) most ≡ min (n * v) most
    by true e =
        let small : v ≤ most = grind (arith, nat_tests) in
        let same : min v most ≡ v = omega arith in
        ap (λ x. min (n * x) most) same
    by false e =
        let big : most < v = grind (arith, nat_tests) in
        let same : min v most ≡ most = omega arith in
        ap (λ x. min (n * x) most) same ∙ large n big

-- what lies before a piece of a segment
pub piece_bound : (len piece number : ℕ) → len ≤ 1024 → piece ≤ 1024 → number ≤ (len + (piece - 1)) / piece → (number - 1) * piece < 2 ^ 22
piece_bound len piece number short cut last =
    let few : number - 1 ≤ 2047 = omega (arith, div-le_self (len + (piece - 1)) piece) in
    omega (arith, mul-le-mul few cut)
