use Rattle.std.proofs.Common.{◌≡◌, ◌++◌, drop, map, slice_index}
use Rattle.block_pool.specs.Opened.{classes_from}
use Rattle.block_pool.specs.Runs.{widths_of}
use Rattle.block_pool.proofs.runs.runs_of.Given as goal

abbrev pub invariant-loop-class : goal.invariant-loop-class
invariant-loop-class l = widths_of l.runs.items ++ map (slice_index l.widths) (classes_from l.class (drop l.class l.counts)) ≡ map (slice_index l.widths) (classes_from 0 l.counts)
