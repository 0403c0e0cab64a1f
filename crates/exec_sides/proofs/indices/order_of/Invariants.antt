use Rattle.std.proofs.Common.{◌≡◌, length, map, take}
use Rattle.exec_sides.specs.Named.{place_among}
use Rattle.exec_sides.proofs.indices.order_of.Given as goal

abbrev pub invariant-loop-k : goal.invariant-loop-k
invariant-loop-k l = record {
  done : take l.k l.order ≡ map (place_among l.from) (take l.k l.to);
  long : length l.order ≡ 6;
}
