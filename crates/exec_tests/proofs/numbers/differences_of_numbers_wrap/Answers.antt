use Rattle.std.proofs.Common.{refl, arith}
use Rattle.exec_tests.specs.Worked.{numbers, worked}
use Rattle.exec_tests.proofs.numbers.differences_of_numbers_wrap.Goals as goal

pub number-difference-requires : goal.number-difference-requires
number-difference-requires c d = record { fits = (worked, numbers, record { side = (tt, tt); agrees = refl }) }
