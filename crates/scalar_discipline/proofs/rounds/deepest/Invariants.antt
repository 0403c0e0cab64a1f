use Rattle.std.proofs.Common.{◌≡◌, map, fold, max, drop, slice_index_or}
use Rattle.scalar_discipline.specs.declared.call.Call.{Call}
use Rattle.scalar_discipline.specs.Rounds.{deepest}
use Rattle.scalar_discipline.proofs.rounds.deepest.Given as goal

-- the greatest so far and those of the calls that are left have the greatest of all
abbrev pub invariant-loop-call : goal.invariant-loop-call
invariant-loop-call l =
    fold max l.most (map (λ (c : Call). slice_index_or l.depths c.procedure 1) (drop l.call-index l.calls)) ≡ deepest l.depths l.calls
