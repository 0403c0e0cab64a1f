use Rattle.std.proofs.Common.{◌≡◌, ◌+◌, ◌-◌, ◌*◌, ◌∷◌, ◌++◌, length, take, drop}
use Rattle.kernel_permute.specs.Inserting.{inserted, put}
use Rattle.kernel_permute.specs.Parts.{dims_of, sizes, starts}
use Rattle.kernel_permute.proofs.PositionsLemmas.{rows}
use Rattle.kernel_permute.proofs.inserting.+insertion.Given as goal

abbrev pub decreases-insert : goal.decreases-insert
decreases-insert l = 4 * length l.parts.now + 3

abbrev pub decreases-insert_block : goal.decreases-insert_block
decreases-insert_block l = 4 * length l.parts.now + 2

abbrev pub decreases-insert_within : goal.decreases-insert_within
decreases-insert_within l = 4 * length l.rest.now + 5

abbrev pub decreases-insert_blocks : goal.decreases-insert_blocks
decreases-insert_blocks l = 4 * length l.rest.now + 4

abbrev pub invariant-insert_blocks-loop-i : goal.invariant-insert_blocks-loop-i
invariant-insert_blocks-loop-i l =
    take (l.i * l.width) l.to ++ rows (put l.how (l.count ∷ sizes l.rest) l.from (0 ∷ starts l.rest)) (dims_of l.rest) l.i (l.count - l.i) (drop (l.i * l.width) l.to)
    ≡ inserted l.how (l.count ∷ sizes l.rest) l.from (l.count ∷ dims_of l.rest) (0 ∷ starts l.rest) l.fn.to
