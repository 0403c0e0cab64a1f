-- What steps meet on the way to a program's end.
use Rattle.std.specs.Prelude.{◌≡◌, ℕ, ◌^◌, ◌≤◌, List, [], ◌++◌, Some, None}
use Rattle.sial_meaning.specs.Accepted.{Accepts, Clashed, Trapped, first_refusal}
use Rattle.sial_meaning.specs.Access.{Found, Touch, first_clash}
use Rattle.sial_meaning.specs.Costs.{sequential_steps}
use Rattle.sial_meaning.specs.Meaning.{sequential}
use Rattle.sial_meaning.specs.Next as next
use Rattle.sial_meaning.specs.Next.{next_of}
use Rattle.sial_meaning.specs.Setting.{Setting}
use Rattle.sial_meaning.specs.Sound.{IsSound}
use Rattle.sial_meaning.specs.State.{State}
use Rattle.sial_meaning.specs.Statement.{Went, Stopped, Present}
use Rattle.sial_meaning.specs.Step.{Work, Stepped, Moved, Halted, Ended, start_work, step, steps}
use Rattle.sial_meaning.specs.declared.trap.Trap.{Trap}

-- a program that ends, by steps whose number is within the limit
pub record Runs (g : Setting) : Type 0 where
  pub sound : IsSound g
  pub few : sequential_steps g ≤ 2 ^ 62

-- the steps of a program's sequential meaning lead from its start to this work
pub record ComesTo (g : Setting) (w : Work) : Type 0 where
  pub count : ℕ
  pub led : steps Present g count (start_work g) ≡ Moved w

-- a log goes on as this one
abbrev pub GoesOn : List Touch → List Touch → Type 0
GoesOn log more = (others : List Touch) × (more ≡ log ++ others)

-- the log of the state that a step leads to begins with this one
abbrev pub Logs : List Touch → Stepped → Type 0
Logs log (Moved w) = GoesOn log w.state.log
Logs log (Halted trap s) = GoesOn log s.log
Logs log Ended = ⊥

-- the first clash of what a step has logged, or of a first part of it, is the program's first refusal
abbrev pub ClashOnTheWay : Type 0
ClashOnTheWay =
    (g : Setting) (w : Work) (log : List Touch) (clash : Found)
    → Runs g → ComesTo g w → Logs log (step Present g w) → first_clash [] log ≡ Some clash → first_refusal g ≡ Some (Clashed clash)

-- a trap that a step meets, where nothing clashed before, is the first refusal; the meaning stops there
abbrev pub TrapOnTheWay : Type 0
TrapOnTheWay =
    (g : Setting) (w : Work) (trap : Trap) (s : State)
    → Runs g → ComesTo g w → step Present g w ≡ Halted trap s → first_clash [] s.log ≡ None
    → (first_refusal g ≡ Some (Trapped trap)) × (sequential g ≡ Stopped trap s)

-- where the end is reached and nothing clashed, the program is accepted; its meaning is the state at the end
abbrev pub EndOnTheWay : Type 0
EndOnTheWay =
    (g : Setting) (w : Work)
    → Runs g → ComesTo g w → next_of w.rest ≡ next.Over → first_clash [] w.state.log ≡ None → Accepts g × (sequential g ≡ Went w.state)
