-- What granted programs give a worker.
use Rattle.std.proofs.Common.{◌≡◌, ℕ, subst}
use Rattle.sial_meaning.proofs.StatesAreWhole.Rest.{GoodAt, GoodWork}
use Rattle.sial_meaning.proofs.StatesAreWhole.Steps.{steps-lead}
use Rattle.sial_meaning.specs.Rest.{Rest}
use Rattle.sial_meaning.specs.Setting.{Setting}
use Rattle.sial_meaning.specs.Sound.{IsSound}
use Rattle.sial_meaning.specs.State.{State}
use Rattle.sial_meaning.specs.Statement.{Reading}
use Rattle.sial_meaning.specs.Step.{Work, Moved, start_work, steps}
use Rattle.exec_core.specs.Runs.{RunsWell}

-- good work runs well
pub good_runs_well : (g : Setting) (rest : Rest) (s : State) → GoodWork g rest s → RunsWell g rest s.own
good_runs_well g rest s good = record { indices = good.indices; in_range = good.in_range; good = good.good; whole = good.whole.own }

-- whatever work is reached is good
pub reached_runs_well : (reading : Reading) (g : Setting) (count : ℕ) (w : Work) → IsSound g → steps reading g count (start_work g) ≡ Moved w → RunsWell g w.rest w.state.own
reached_runs_well reading g count w sound is = good_runs_well g w.rest w.state (subst (GoodAt g) is (steps-lead reading g count sound))
