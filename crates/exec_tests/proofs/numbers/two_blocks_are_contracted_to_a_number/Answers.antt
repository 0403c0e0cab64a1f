use Rattle.std.proofs.Common.{refl, arith}
use Rattle.exec_tests.specs.Worked.{numbers, worked}
use Rattle.exec_tests.proofs.numbers.two_blocks_are_contracted_to_a_number.Goals as goal

pub number-sum-requires : goal.number-sum-requires
number-sum-requires c d = record { fits = (worked, numbers, record { side = (record { once = refl; some = omega arith; most = omega arith; extents = refl; words = refl; few = omega arith }, record { once = refl; some = omega arith; most = omega arith; extents = refl; words = refl; few = omega arith }); agrees = refl }) }
