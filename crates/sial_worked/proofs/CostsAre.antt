-- How many steps and words worked programs need.
use Rattle.std.proofs.Common.{refl}
use Rattle.sial_worked.specs.Counted.{StepsAreCounted, WordsAreCounted}

pub steps-are-counted : StepsAreCounted
steps-are-counted = record { first = refl; small = refl; nested = refl; disk = refl; parts = refl; deep_five = refl; deep = refl }

pub words-are-counted : WordsAreCounted
words-are-counted = record { first = refl; small = refl; nested = refl; disk = refl; parts = refl; deep = refl }
