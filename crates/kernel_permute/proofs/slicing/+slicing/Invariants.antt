use Rattle.std.proofs.Common.{◌≡◌, ◌+◌, ◌-◌, ◌*◌, ◌∷◌, ◌++◌, length, take, drop}
use Rattle.kernel_permute.specs.Parts.{dims_of, sizes, starts}
use Rattle.kernel_permute.specs.Slicing.{sliced}
use Rattle.kernel_permute.proofs.PositionsLemmas.{rows}
use Rattle.kernel_permute.proofs.SlicingLemmas.{taken}
use Rattle.kernel_permute.proofs.slicing.+slicing.Given as goal

abbrev pub decreases-slice : goal.decreases-slice
decreases-slice l = 4 * length l.parts.now + 3

abbrev pub decreases-slice_block : goal.decreases-slice_block
decreases-slice_block l = 4 * length l.parts.now + 2

abbrev pub decreases-slice_within : goal.decreases-slice_within
decreases-slice_within l = 4 * length l.rest.now + 5

abbrev pub decreases-slice_blocks : goal.decreases-slice_blocks
decreases-slice_blocks l = 4 * length l.rest.now + 4

abbrev pub invariant-slice_blocks-loop-i : goal.invariant-slice_blocks-loop-i
invariant-slice_blocks-loop-i l =
    take (l.i * l.piece) l.to ++ rows (taken l.how (l.count ∷ dims_of l.rest) (0 ∷ starts l.rest) l.from) (sizes l.rest) l.i (l.count - l.i) (drop (l.i * l.piece) l.to)
    ≡ sliced l.how (l.count ∷ dims_of l.rest) (0 ∷ starts l.rest) (l.count ∷ sizes l.rest) l.from l.fn.to
