use Rattle.scalar_discipline.proofs.DistinctLemmas.{reach_given}
use Rattle.scalar_discipline.proofs.reaching.reached.Goals as goal

pub returns : goal.returns
returns c = reach_given c.reaching.result c.args.few.now c.args.calls.now c.args.to c.requires c.reaching.ensures
