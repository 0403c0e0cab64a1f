use Rattle.std.proofs.Common.{◌≡◌, length, take}
use Rattle.exec_sides.specs.Parts.{starts_in}
use Rattle.exec_sides.specs.Seen.{extents_of}
use Rattle.exec_sides.proofs.parts.starts_of.Given as goal

abbrev pub invariant-loop-k : goal.invariant-loop-k
invariant-loop-k l = record {
  done : take l.k l.starts ≡ starts_in (extents_of (take l.k l.parts)) (extents_of (take l.k l.wholes));
  long : length l.starts ≡ 6;
}
