use Rattle.std.proofs.Common.{◌≡◌, ◌+◌, ◌<◌, length, drop, take, slice_index}
use Rattle.block_pool.specs.Cut.{total}
use Rattle.block_pool.specs.Runs.{widths_of}
use Rattle.block_pool.proofs.runs.place_of.Given as goal

abbrev pub invariant-loop-run : goal.invariant-loop-run
invariant-loop-run l = record {
  within : l.left < length (widths_of (drop l.run-index l.runs));
  before : l.start + total (take l.left (widths_of (drop l.run-index l.runs))) ≡ total (take l.slot (widths_of l.runs));
  width : slice_index (widths_of (drop l.run-index l.runs)) l.left ≡ slice_index (widths_of l.runs) l.slot;
  all : l.start + total (widths_of (drop l.run-index l.runs)) ≡ total (widths_of l.runs);
}
