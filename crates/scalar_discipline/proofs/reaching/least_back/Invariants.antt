use Rattle.std.proofs.Common.{◌≡◌, drop}
use Rattle.sial_syntax.specs.SideRules.{least}
use Rattle.scalar_discipline.specs.Rounds.{lesser, lines_back}
use Rattle.scalar_discipline.proofs.reaching.least_back.Given as goal

-- the least so far, or that of the calls that are left, is the least of all
abbrev pub invariant-loop-call : goal.invariant-loop-call
invariant-loop-call l = lesser l.first (least (lines_back l.reach (drop l.call-index l.calls))) ≡ least (lines_back l.reach l.calls)
