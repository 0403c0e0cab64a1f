use Rattle.std.proofs.Common.{◌≡◌, ◌/◌, ◌%◌, drop, length}
use Rattle.sial_syntax.specs.Boxes.{volume}
use Rattle.sial_syntax.specs.Spaces.{box_of, numbers_at}
use Rattle.index_spaces.specs.Laid.{over}
use Rattle.index_spaces.specs.Placed.{spans_of}
use Rattle.index_spaces.proofs.boxes.write_tuple.Given as goal

-- the numbers from here on are written, and how often their box was passed is left
abbrev pub invariant-loop-k : goal.invariant-loop-k
invariant-loop-k l = record {
  done : drop l.k l.into ≡ numbers_at (over (spans_of l.spans)) (drop l.k l.indices) (l.rank % volume (box_of (over (spans_of l.spans)) (drop l.k l.indices)));
  left : l.left ≡ l.rank / volume (box_of (over (spans_of l.spans)) (drop l.k l.indices));
  long : length l.into ≡ length l.indices;
}
