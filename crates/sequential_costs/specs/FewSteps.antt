-- A program ends within its number of steps.
use Rattle.std.specs.Prelude.{◌≡◌, ℕ, ◌+◌, ◌^◌, ◌≤◌}
use Rattle.sial_syntax.specs.Numbering.{stop_at}
use Rattle.sial_meaning.specs.declared.trap.Trap.{Trap}
use Rattle.sial_meaning.specs.Costs.{sequential_steps}
use Rattle.sial_meaning.specs.Meaning.{meaning}
use Rattle.sial_meaning.specs.Next as next
use Rattle.sial_meaning.specs.Next.{next_of}
use Rattle.sial_meaning.specs.Rest.{Over}
use Rattle.sial_meaning.specs.Setting.{Setting}
use Rattle.sial_meaning.specs.Sound.{IsSound}
use Rattle.sial_meaning.specs.State.{State}
use Rattle.sial_meaning.specs.Statement.{Went, Stopped, Reading}
use Rattle.sial_meaning.specs.Step.{Work, Stepped, Moved, Halted, Ended, done, go_on, start_work, step, steps}

-- steps led to the program's end, or stopped at a trap before
abbrev pub HasEnded : Stepped → Type 0
HasEnded (Moved w) = next_of w.rest ≡ next.Over
HasEnded (Halted trap s) = Unit {0}
HasEnded Ended = Unit {0}

-- where its number of steps isn't past the limit, a program has ended after as many steps, and after more
abbrev pub StepsAreFew : Type 0
StepsAreFew =
    (reading : Reading) (g : Setting) (count : ℕ)
    → IsSound g → sequential_steps g ≤ 2 ^ 62 → sequential_steps g ≤ count → HasEnded (steps reading g count (start_work g))

-- so after as many steps, or fewer, it stands at its end with the state of the fold, or has halted with the trap of the fold and its state
abbrev pub FoldIsNear : Type 0
FoldIsNear =
    (reading : Reading) (g : Setting) → IsSound g → sequential_steps g ≤ 2 ^ 62
    → (count : ℕ)
    × (count ≤ sequential_steps g)
    × (steps reading g count (start_work g) ≡ done (meaning reading g) (Over (stop_at g.program)))

-- one step more
abbrev pub OneStepMore : Type 0
OneStepMore =
    (reading : Reading) (g : Setting) (count : ℕ) (w : Work)
    → steps reading g (count + 1) w ≡ go_on (step reading g) (steps reading g count w)

-- where steps lead to the program's end, its meaning is the state that they lead to
abbrev pub EndIsTheMeaning : Type 0
EndIsTheMeaning =
    (reading : Reading) (g : Setting) (count : ℕ) (w : Work)
    → IsSound g → steps reading g count (start_work g) ≡ Moved w → next_of w.rest ≡ next.Over
    → meaning reading g ≡ Went w.state

-- where they halt at a trap, its meaning is that trap in that state
abbrev pub HaltIsTheMeaning : Type 0
HaltIsTheMeaning =
    (reading : Reading) (g : Setting) (count : ℕ) (trap : Trap) (s : State)
    → IsSound g → steps reading g count (start_work g) ≡ Halted trap s → meaning reading g ≡ Stopped trap s
