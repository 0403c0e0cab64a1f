use Rattle.std.proofs.Common.{◌≡◌, ◌-◌, [], ◌∷◌, ◌++◌, take, drop, length}
use Rattle.kernel_permute.specs.Positions.{each_number}
use Rattle.kernel_permute.specs.Strided.{met}
use Rattle.kernel_permute.proofs.PositionsLemmas.{rows}
use Rattle.kernel_permute.proofs.strided.read_row.Given as goal

abbrev pub invariant-loop-i : goal.invariant-loop-i
invariant-loop-i l =
    take l.i l.to ++ rows (met l.how l.from l.base (l.stride ∷ [])) [] l.i (length l.fn.to - l.i) (drop l.i l.to)
    ≡ each_number (met l.how l.from l.base (l.stride ∷ [])) (length l.fn.to ∷ []) l.fn.to
