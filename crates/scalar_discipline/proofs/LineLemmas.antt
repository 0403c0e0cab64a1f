-- The lesser of lines.
use Rattle.std.proofs.Common.{◌≡◌, ℕ, min, Option, Some, None, refl, ap, arith}
use Rattle.scalar_discipline.specs.Rounds.{lesser}

-- a line beside none
pub lesser_none : (a : Option ℕ) → lesser a None ≡ a
lesser_none None = refl
lesser_none (Some a) = refl

-- of three lines it doesn't matter which two are compared first
pub lesser_three : (a b c : Option ℕ) → lesser (lesser a b) c ≡ lesser a (lesser b c)
lesser_three None b c = refl
lesser_three (Some a) None c = refl
lesser_three (Some a) (Some b) None = refl
lesser_three (Some a) (Some b) (Some c) = ap Some (three a b c)
  where
    three : (x y z : ℕ) → min (min x y) z ≡ min x (min y z)
    three x y z = omega arith
