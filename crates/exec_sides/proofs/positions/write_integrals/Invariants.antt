use Rattle.std.proofs.Common.{◌≡◌, length, map, take}
use Rattle.sial_syntax.specs.Boxes.{numbers_from}
use Rattle.exec_sides.specs.Seen.{extents_of}
use Rattle.exec_sides.proofs.PlaceByPlace.{integral_of}
use Rattle.exec_sides.proofs.positions.write_integrals.Given as goal

abbrev pub invariant-loop-place : goal.invariant-loop-place
invariant-loop-place l = record {
  done : take l.place l.into ≡ map (integral_of (extents_of l.extents)) (numbers_from 0 l.place);
  long : length l.into ≡ length l.fn.into;
}
