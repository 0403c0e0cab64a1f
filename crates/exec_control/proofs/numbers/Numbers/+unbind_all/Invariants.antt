use Rattle.std.proofs.Common.{length}
use Rattle.exec_control.proofs.numbers.Numbers.+unbind_all.Given as goal

abbrev pub decreases-unbind_all : goal.decreases-unbind_all
decreases-unbind_all l = length l.indices.now
