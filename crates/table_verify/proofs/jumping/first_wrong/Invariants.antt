use Rattle.std.proofs.Common.{◌≡◌, [], None, drop}
use Rattle.table_verify.specs.Jumping as spec
use Rattle.table_verify.proofs.jumping.first_wrong.Given as goal

abbrev pub invariant-loop-at : goal.invariant-loop-at
invariant-loop-at l = spec.first_wrong l.walk.wrong (spec.all_compared l.at l.walk.heads.items (drop l.at l.code)) ≡ spec.first_wrong None (spec.all_compared 0 [] l.fn.code)
