use Rattle.std.proofs.Common.{◌≡◌, ◌+◌, drop}
use Rattle.block_pool.specs.Cut.{total}
use Rattle.block_pool.specs.Runs.{widths_of}
use Rattle.block_pool.proofs.runs.count_words.Given as goal

abbrev pub invariant-loop-run : goal.invariant-loop-run
invariant-loop-run l = l.count + total (widths_of (drop l.run-index l.runs)) ≡ total (widths_of l.runs)
