use Rattle.std.proofs.Common.{◌≡◌, ◌++◌, length, drop}
use Rattle.block_pool.specs.Opened.{classes_from}
use Rattle.block_pool.specs.Laid.{IsLaid}
use Rattle.block_pool.proofs.slots.Slots.open.Given as goal

abbrev pub invariant-loop-at : goal.invariant-loop-at
invariant-loop-at l = record {
  laid : IsLaid l.groups.items l.classes.items;
  groups : length l.groups.items ≡ l.at;
  classes : l.classes.items ++ classes_from l.at (drop l.at l.counts) ≡ classes_from 0 l.counts;
}
