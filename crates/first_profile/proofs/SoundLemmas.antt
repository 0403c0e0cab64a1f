-- Tests that hold together.
use Rattle.std.proofs.Common.{◌≡◌, Bool, true, false, ◌&&◌, ap, ◌∙◌}

-- The second of two tests that hold.
pub last_of_two : (a b : Bool) → (a && b) ≡ true → b ≡ true
last_of_two true b e = e
last_of_two false b e = cc

-- The first of two.
pub first_of_two : (a b : Bool) → (a && b) ≡ true → a ≡ true
first_of_two true b e = cc
first_of_two false b e = cc

-- The second of three.
pub second : (a b c : Bool) → (a && (b && c)) ≡ true → b ≡ true
second a b c e = first_of_two b c (last_of_two a (b && c) e)

-- Two tests that hold.
pub both : (a b : Bool) → a ≡ true → b ≡ true → (a && b) ≡ true
both a b e f = ap (λ t. t && b) e ∙ f
