-- Acceptance said in three ways: by pairs of the log, by counts, and by the first refusal.
use Rattle.std.specs.Prelude.{◌≡◌, ◌↔◌, List, None, AllPairs}
use Rattle.sial_meaning.specs.Accepted.{StandsWith, AllUniform, Accepts, first_refusal}
use Rattle.sial_meaning.specs.Access.{Touch}
use Rattle.sial_meaning.specs.Setting.{Setting}

-- any two accesses to one block in one epoch may stand together exactly where each block has only reads, only adds, only maxes or one store in each epoch
abbrev pub PairsSayCounts : Type 0
PairsSayCounts = (log : List Touch) → AllPairs StandsWith log ↔ AllUniform log

-- a program has no refusal exactly where it is accepted
abbrev pub NoRefusalSaysAccepted : Type 0
NoRefusalSaysAccepted = (g : Setting) → (first_refusal g ≡ None) ↔ Accepts g
