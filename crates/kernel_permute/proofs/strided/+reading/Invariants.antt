use Rattle.std.proofs.Common.{◌≡◌, ◌+◌, ◌-◌, ◌*◌, ◌++◌, length, take, drop}
use Rattle.kernel_permute.specs.Positions.{each_number}
use Rattle.kernel_permute.specs.Strided.{lengths, met, strides}
use Rattle.kernel_permute.proofs.PositionsLemmas.{rows}
use Rattle.kernel_permute.proofs.strided.+reading.Given as goal

abbrev pub decreases-read_block : goal.decreases-read_block
decreases-read_block l = 2 * length l.axes.now

abbrev pub decreases-read : goal.decreases-read
decreases-read l = 2 * length l.axes.now + 1

abbrev pub invariant-read_block-loop-i : goal.invariant-read_block-loop-i
invariant-read_block-loop-i l =
    take (l.i * l.width) l.to ++ rows (met l.how l.from l.base (strides l.axes)) (lengths l.rest) l.i (l.first.len - l.i) (drop (l.i * l.width) l.to)
    ≡ each_number (met l.how l.from l.base (strides l.axes)) (lengths l.axes) l.fn.to
