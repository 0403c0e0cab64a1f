use Rattle.sip_model.proofs.LeastRecentLemmas.{one-least-recent-run, least-recent-runs-are-computed}
use Rattle.sip_model.proofs.laws.least_recent_runs_are_one.Goals as goal

pub returns : goal.returns
returns c = record { one = one-least-recent-run; computed = least-recent-runs-are-computed }
