use Rattle.std.proofs.Common.{◌≡◌, ◌-◌, ◌*◌, [], ◌∷◌, ◌++◌, take, drop}
use Rattle.kernel_permute.specs.Inserting.{inserted, put}
use Rattle.kernel_permute.proofs.PositionsLemmas.{rows}
use Rattle.kernel_permute.proofs.inserting.insert_rows.Given as goal

abbrev pub invariant-loop-i : goal.invariant-loop-i
invariant-loop-i l =
    take (l.i * l.row.dim) l.to ++ rows (put l.how (l.count ∷ l.row.size ∷ []) l.from (0 ∷ l.row.at ∷ [])) (l.row.dim ∷ []) l.i (l.count - l.i) (drop (l.i * l.row.dim) l.to)
    ≡ inserted l.how (l.count ∷ l.row.size ∷ []) l.from (l.count ∷ l.row.dim ∷ []) (0 ∷ l.row.at ∷ []) l.fn.to
