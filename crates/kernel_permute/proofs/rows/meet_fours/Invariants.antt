use Rattle.std.proofs.Common.{◌≡◌, ◌-◌, ◌*◌, [], ◌∷◌, ◌++◌, take, drop, length}
use Rattle.kernel_permute.specs.Positions.{each_number}
use Rattle.kernel_permute.specs.Strided.{met}
use Rattle.kernel_permute.proofs.PositionsLemmas.{rows}
use Rattle.kernel_permute.proofs.rows.meet_fours.Given as goal

abbrev pub invariant-loop-k : goal.invariant-loop-k
invariant-loop-k l =
    take (4 * l.k) l.to ++ rows (met l.how l.from 0 (1 ∷ [])) [] (4 * l.k) (length l.fn.to - 4 * l.k) (drop (4 * l.k) l.to)
    ≡ each_number (met l.how l.from 0 (1 ∷ [])) (length l.fn.to ∷ []) l.fn.to

abbrev pub invariant-loop-i : goal.invariant-loop-i
invariant-loop-i l =
    take l.i l.to ++ rows (met l.how l.from 0 (1 ∷ [])) [] l.i (length l.fn.to - l.i) (drop l.i l.to)
    ≡ each_number (met l.how l.from 0 (1 ∷ [])) (length l.fn.to ∷ []) l.fn.to
