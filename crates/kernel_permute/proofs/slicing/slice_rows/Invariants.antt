use Rattle.std.proofs.Common.{◌≡◌, ◌-◌, ◌*◌, [], ◌∷◌, ◌++◌, take, drop}
use Rattle.kernel_permute.specs.Slicing.{sliced}
use Rattle.kernel_permute.proofs.PositionsLemmas.{rows}
use Rattle.kernel_permute.proofs.SlicingLemmas.{taken}
use Rattle.kernel_permute.proofs.slicing.slice_rows.Given as goal

abbrev pub invariant-loop-i : goal.invariant-loop-i
invariant-loop-i l =
    take (l.i * l.row.size) l.to ++ rows (taken l.how (l.count ∷ l.row.dim ∷ []) (0 ∷ l.row.at ∷ []) l.from) (l.row.size ∷ []) l.i (l.count - l.i) (drop (l.i * l.row.size) l.to)
    ≡ sliced l.how (l.count ∷ l.row.dim ∷ []) (0 ∷ l.row.at ∷ []) (l.count ∷ l.row.size ∷ []) l.from l.fn.to
