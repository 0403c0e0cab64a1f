use Rattle.std.proofs.Common.{◌≡◌, ◌+◌, ◌*◌, ◌≤◌, take, sum, IsTrue}
use Rattle.index_spaces.specs.Placed.{lengths_of, follow_from, are_near}
use Rattle.index_spaces.proofs.cuts.extents.Given as goal

-- the segments so far have the lengths so far, and the next one begins behind them
abbrev pub invariant-loop-len : goal.invariant-loop-len
invariant-loop-len l = record {
  lengths : lengths_of l.segments.items ≡ take l.len-index l.lengths;
  start : l.start ≡ 1 + sum (lengths_of l.segments.items);
  near : l.start ≤ 1 + 1024 * l.len-index;
  follow : IsTrue (follow_from 1 l.segments.items);
  small : IsTrue (are_near l.segments.items);
}
