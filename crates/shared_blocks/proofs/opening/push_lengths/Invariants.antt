use Rattle.std.proofs.Common.{◌≡◌, ◌++◌, ◌-◌, map}
use Rattle.sip_setting.specs.Seen.{setting_of}
use Rattle.sial_syntax.specs.Boxes.{numbers_from}
use Rattle.sial_meaning.specs.Own.{for_each}
use Rattle.sial_meaning.specs.Setting.{block_count, block_words}
use Rattle.shared_blocks.proofs.opening.push_lengths.Given as goal

-- the lengths of the blocks up to here
abbrev pub invariant-loop-number : goal.invariant-loop-number
invariant-loop-number l =
    l.lengths.items ++ map (block_words (setting_of l.job) l.array) (numbers_from l.number (block_count (setting_of l.job) l.array - l.number))
    ≡ l.fn.lengths.items ++ for_each (block_count (setting_of l.job) l.array) (block_words (setting_of l.job) l.array)
