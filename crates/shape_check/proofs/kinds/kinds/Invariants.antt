use Rattle.std.proofs.Common.{◌≡◌, [], drop}
use Rattle.sial_syntax.specs.Agreeing.{kinds_after}
use Rattle.shape_check.proofs.kinds.kinds.Given as goal

-- the kinds so far, and those of the indices that are left, are those of all
abbrev pub invariant-loop-index : goal.invariant-loop-index
invariant-loop-index l = kinds_after l.kinds.items (drop l.index-index l.indices) ≡ kinds_after [] l.indices
