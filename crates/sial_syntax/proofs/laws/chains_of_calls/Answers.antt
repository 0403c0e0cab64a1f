use Rattle.sial_syntax.proofs.ReachedByChains.{reached-by-chains}
use Rattle.sial_syntax.proofs.RecursionByChains.{recursion-by-chains}
use Rattle.sial_syntax.proofs.DepthByCalls.{depth-by-calls}
use Rattle.sial_syntax.proofs.SidesByCalls.{outer-by-calls, inner-by-calls}
use Rattle.sial_syntax.proofs.laws.chains_of_calls.Goals as goal

pub returns : goal.returns
returns c = record { reached = reached-by-chains; recursion = recursion-by-chains; depth = depth-by-calls; outer = outer-by-calls; inner = inner-by-calls }
