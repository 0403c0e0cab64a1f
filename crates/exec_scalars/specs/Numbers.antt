-- What contracts see of a worker's scalars.
use Rattle.std.specs.Prelude.{◌≡◌, ℕ, List, Option}
use Rattle.sial_meaning.specs.Own.{Own}

-- the number of each scalar that isn't partial, where it is set, and that of each partial scalar, 0 for the others
pub record Numbers : Type 0 where
  pub scalars : List (Option ℕ)
  pub partials : List ℕ

-- these are the scalars that a worker holds, and these its partial scalars
pub record AreNumbers (numbers : Numbers) (own : Own) (partials : List ℕ) : Type 0 where
  pub scalars : numbers.scalars ≡ own.scalars
  pub partials_are : numbers.partials ≡ partials
