use Rattle.sip_model.proofs.ReachLemmas.{least-recent-runs-are-legal}
use Rattle.sip_model.proofs.laws.least_recent_runs_are_legal.Goals as goal

pub returns : goal.returns
returns c = least-recent-runs-are-legal
