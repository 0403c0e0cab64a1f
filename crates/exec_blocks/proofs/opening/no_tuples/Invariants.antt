use Rattle.std.proofs.Common.{◌≡◌, ◌<◌, ℕ, [], length, slice_index_or}
use Rattle.sip_setting.specs.Seen.{setting_of}
use Rattle.sial_meaning.specs.Setting.{dims_of}
use Rattle.exec_blocks.specs.Tuples.{tuples_of}
use Rattle.exec_blocks.proofs.opening.no_tuples.Given as goal

-- the tuples of the arrays up to here
abbrev pub invariant-loop-array : goal.invariant-loop-array
invariant-loop-array l = record {
  many : length l.tuples.items ≡ l.array;
  ranks : (array : ℕ) → array < l.array → length (slice_index_or (tuples_of l.tuples.items) array []) ≡ length (dims_of (setting_of l.job) array);
}
