use Rattle.std.specs.Cmp.{booleans_Decides}
use Rattle.std.proofs.lemmas.Slice.Eq.{slice_eq-Decides}
use Rattle.scalar_discipline.proofs.reaching.same.Goals as goal

pub returns : goal.returns
returns c = λ e. (slice_eq-Decides booleans_Decides c.args.reach.now c.args.other.now c.eq.result c.eq.ensures).0 e
