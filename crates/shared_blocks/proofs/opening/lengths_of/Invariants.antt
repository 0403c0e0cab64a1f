use Rattle.std.proofs.Common.{◌≡◌, ◌++◌, ◌-◌, length}
use Rattle.std.specs.List.{flat_map}
use Rattle.sip_setting.specs.Seen.{setting_of}
use Rattle.shared_blocks.specs.Lengths.{lengths_if, lengths_of}
use Rattle.shared_blocks.proofs.FlatLemmas.{arrays_from}
use Rattle.shared_blocks.proofs.opening.lengths_of.Given as goal

-- the lengths of the arrays up to here
abbrev pub invariant-loop-array : goal.invariant-loop-array
invariant-loop-array l =
    l.lengths.items ++ flat_map (lengths_if (setting_of l.job) l.kind) (arrays_from l.array (length (setting_of l.job).program.arrays - l.array)) ≡ lengths_of (setting_of l.job) l.kind
