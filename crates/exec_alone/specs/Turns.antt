-- Pardos in progress where one worker alone takes their tuples in order.
use Rattle.std.specs.Prelude.{ℕ, ◌<◌, List, [], ◌∷◌, ◌++◌}
use Rattle.sial_meaning.specs.Rest.{Rest, Over, Next, Turn, Join, Back, Within}

-- for each pardo in progress the place, in its box, of the tuple that is taken up next; the pardo that began last comes last
abbrev pub turns_of : Rest → List ℕ
turns_of (Over at) = []
turns_of (Next at line form rest) = turns_of rest
turns_of (Turn loop last rest) = turns_of rest
turns_of (Join at rest) = turns_of rest
turns_of (Back at values rest) = turns_of rest
turns_of (Within pardo number rest) = turns_of rest ++ number ∷ []

-- each of these places is below a number
abbrev pub TurnsBelow : ℕ → Rest → Type 0
TurnsBelow n (Over at) = Unit {0}
TurnsBelow n (Next at line form rest) = TurnsBelow n rest
TurnsBelow n (Turn loop last rest) = TurnsBelow n rest
TurnsBelow n (Join at rest) = TurnsBelow n rest
TurnsBelow n (Back at values rest) = TurnsBelow n rest
TurnsBelow n (Within pardo number rest) = (number < n) × TurnsBelow n rest
