use Rattle.std.proofs.Common.{refl, arith}
use Rattle.exec_tests.specs.Worked.{numbers, worked}
use Rattle.exec_tests.proofs.Flat.{flat}
use Rattle.exec_tests.proofs.assignments.a_sum_replaces.Goals as goal

pub assign-requires : goal.assign-requires
assign-requires c d = record {
  fits = (
    worked,
    numbers,
    record {
      target = record { once = refl; some = omega arith; most = omega arith; extents = refl; words = refl; few = omega arith };
      side = (record { once = refl; some = omega arith; most = omega arith; extents = refl; words = refl; few = omega arith }, record { once = refl; some = omega arith; most = omega arith; extents = refl; words = refl; few = omega arith });
      agrees = refl;
      flat = flat;
    },
  );
}
