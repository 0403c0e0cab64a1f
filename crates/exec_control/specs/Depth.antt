-- How deep loops and calls in progress stand within each other.
use Rattle.std.specs.Prelude.{ℕ, ◌+◌, ◌<◌, ◌≤◌, List, [], ◌∷◌, ◌++◌}
use Rattle.sial_syntax.specs.Limits.{most_nesting}
use Rattle.sial_syntax.specs.Proper.{nesting, body_nesting}
use Rattle.sial_meaning.specs.Control.{Led, Goes, Halts}
use Rattle.sial_meaning.specs.Meaning.{call_depth}
use Rattle.sial_meaning.specs.Rest.{Rest, Over, Next, Turn, Join, Back, Within, depth}

-- the last numbers of the loops in progress, that of the last to begin last
abbrev pub lasts_of : Rest → List ℕ
lasts_of (Over at) = []
lasts_of (Next at line form rest) = lasts_of rest
lasts_of (Turn loop last rest) = lasts_of rest ++ last ∷ []
lasts_of (Join at rest) = lasts_of rest
lasts_of (Back at values rest) = lasts_of rest
lasts_of (Within pardo number rest) = lasts_of rest

-- how many loops are in progress in the procedure that is under way
abbrev pub loops : Rest → ℕ
loops (Over at) = 0
loops (Next at line form rest) = loops rest
loops (Turn loop last rest) = loops rest + 1
loops (Join at rest) = loops rest
loops (Back at values rest) = 0
loops (Within pardo number rest) = loops rest

-- in each procedure under way, loops in progress and what still may begin within them stand no deeper than bodies may nest;
-- nor do calls than they may
abbrev pub Nests : Rest → Type 0
Nests (Over at) = Unit {0}
Nests (Next at line form rest) = ((nesting form + loops rest) ≤ most_nesting) × Nests rest
Nests (Turn loop last rest) = ((body_nesting loop.body + (loops rest + 1)) ≤ most_nesting) × Nests rest
Nests (Join at rest) = Nests rest
Nests (Back at values rest) = (depth rest < call_depth) × Nests rest
Nests (Within pardo number rest) = ((body_nesting pardo.body + loops rest) ≤ most_nesting) × Nests rest

-- so they do where control leads; a trap leads nowhere
abbrev pub LedNests : Led → Type 0
LedNests (Goes rest own) = Nests rest
LedNests (Halts trap) = Unit {0}
