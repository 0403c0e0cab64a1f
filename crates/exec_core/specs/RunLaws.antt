-- What granted programs give a worker.
use Rattle.std.specs.Prelude.{◌≡◌, ℕ}
use Rattle.sial_meaning.proofs.StatesAreWhole.Rest.{GoodWork}
use Rattle.sial_meaning.specs.Rest.{Rest}
use Rattle.sial_meaning.specs.Setting.{Setting}
use Rattle.sial_meaning.specs.Sound.{IsSound}
use Rattle.sial_meaning.specs.State.{State}
use Rattle.sial_meaning.specs.Statement.{Reading}
use Rattle.sial_meaning.specs.Step.{Work, Moved, start_work, steps}
use Rattle.exec_core.specs.Runs.{RunsWell}

-- good work runs well; each step of a sound program leaves good work
abbrev pub GoodWorkRunsWell : Type 0
GoodWorkRunsWell = (g : Setting) (rest : Rest) (s : State) → GoodWork g rest s → RunsWell g rest s.own

-- so whatever work a sound program has left, after any number of steps from its start, runs well
abbrev pub WorkRunsWell : Type 0
WorkRunsWell = (reading : Reading) (g : Setting) (count : ℕ) (w : Work) → IsSound g → steps reading g count (start_work g) ≡ Moved w → RunsWell g w.rest w.state.own
