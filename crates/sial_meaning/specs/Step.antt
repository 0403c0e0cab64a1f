-- Work in a state, and one step of it.
use Rattle.std.specs.Prelude.{ℕ, zero, suc}
use Rattle.sial_syntax.specs.Numbering.{stop_at}
use Rattle.sial_meaning.specs.declared.trap.Trap.{Trap}
use Rattle.sial_meaning.specs.Control.{Led, Goes, Halts, control}
use Rattle.sial_meaning.specs.Next as next
use Rattle.sial_meaning.specs.Next.{Task, next_of}
use Rattle.sial_meaning.specs.Rest.{Rest, Over, push}
use Rattle.sial_meaning.specs.Setting.{Setting}
use Rattle.sial_meaning.specs.State.{State, start_state, with_own}
use Rattle.sial_meaning.specs.Statement.{Outcome, Went, Stopped, Reading, statement}

-- work to do and the state to do it in
pub record Work : Type 0 where
  pub rest : Rest
  pub state : State

-- where a step leads: to other work, to a trap, or nowhere at the program's end
pub data Stepped : Type 0 where
  Moved : Work → Stepped
  Halted : Trap → State → Stepped
  Ended : Stepped

-- work of this rest and state
abbrev pub moved : Rest → State → Stepped
moved rest s = Moved (record { rest = rest; state = s })

-- where control leads in a state
abbrev pub led : State → Led → Stepped
led s (Goes rest own) = moved rest (with_own s own)
led s (Halts trap) = Halted trap s

-- where a statement that holds no other leads
abbrev pub done : Outcome → Rest → Stepped
done (Went s) rest = moved rest s
done (Stopped trap s) rest = Halted trap s

-- one step by what comes next: a statement has its meaning, and control does all else
abbrev pub step_by : Reading → Setting → Task → Rest → State → Stepped
step_by reading g next.Over r s = Ended
step_by reading g (next.Statement line form rest) r s = done (statement reading g line form s) rest
step_by reading g task r s = led s (control g r s.own)

-- one step of the rest of the work, from a state
abbrev pub step_from : Reading → Setting → Rest → State → Stepped
step_from reading g r s = step_by reading g (next_of r) r s

-- one step of the rest of the work
abbrev pub step : Reading → Setting → Work → Stepped
step reading g w = step_from reading g w.rest w.state

-- what follows a step
abbrev pub go_on : (Work → Stepped) → Stepped → Stepped
go_on next (Moved w) = next w
go_on next (Halted trap s) = Halted trap s
go_on next Ended = Ended

-- so many steps
abbrev pub steps : Reading → Setting → (count : ℕ) → Work → Stepped
steps reading g zero w = Moved w
steps reading g (suc n) w = go_on (steps reading g n) (step reading g w)

-- the work of a program from its start
abbrev pub start_work : Setting → Work
start_work g = record { rest = push 0 g.program.body (Over (stop_at g.program)); state = start_state g }
