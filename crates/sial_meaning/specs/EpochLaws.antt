-- Laws of the epoch meaning: up to the first refusal it is the sequential meaning.
use Rattle.std.specs.Prelude.{◌≡◌, ℕ, List, [], ◌∷◌, ◌++◌, None, ◌↔◌, if◌then◌else◌}
use Rattle.std.specs.List.{list_any}
use Rattle.sial_syntax.specs.Proper.{IsProper}
use Rattle.sial_meaning.specs.Accepted.{log_of, refusal_of, first_refusal}
use Rattle.sial_meaning.specs.Access.{Touch, clashes, first_clash}
use Rattle.sial_meaning.specs.Meaning.{sequential, by_epochs}
use Rattle.sial_meaning.specs.Step.{Stepped, Moved, Halted, Ended, steps, start_work}
use Rattle.sial_meaning.specs.Setting.{Setting}
use Rattle.sial_meaning.specs.Statement.{Present, Copied}

-- a log up to and with its first access that may not stand together with an earlier one, after some that were looked at
abbrev pub up_to_clash : List Touch → List Touch → List Touch
up_to_clash before [] = []
up_to_clash before (t ∷ ts) = t ∷ (if list_any (clashes t) before then [] else up_to_clash (before ++ t ∷ []) ts)

-- the epoch meaning has the first refusal of the sequential meaning
abbrev pub SameRefusal : Type 0
SameRefusal = (g : Setting) → IsProper g.program → refusal_of (by_epochs g) ≡ first_refusal g

-- up to and with the first access that clashes both have the same log
abbrev pub SameLog : Type 0
SameLog = (g : Setting) → IsProper g.program → up_to_clash [] (log_of (by_epochs g)) ≡ up_to_clash [] (log_of (sequential g))

-- where no access clashes both end or trap in the same state
abbrev pub SameOutcome : Type 0
SameOutcome = (g : Setting) → IsProper g.program → first_clash [] (log_of (sequential g)) ≡ None → by_epochs g ≡ sequential g

-- steps led to work or to a trap, and no access has clashed
abbrev pub IsUnclashed : Stepped → Type 0
IsUnclashed (Moved w) = first_clash [] w.state.log ≡ None
IsUnclashed (Halted trap s) = first_clash [] s.log ≡ None
IsUnclashed Ended = ⊥

-- after any number of steps both stand at the same work or trap in the same state, as long as no access has clashed
abbrev pub SameStates : Type 0
SameStates =
    (g : Setting) (count : ℕ) (t : Stepped)
    → IsProper g.program → IsUnclashed t → (steps Present g count (start_work g) ≡ t) ↔ (steps Copied g count (start_work g) ≡ t)
