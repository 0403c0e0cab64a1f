use Rattle.std.proofs.Common.{◌≡◌, ◌++◌, take, drop}
use Rattle.kernel_permute.specs.Gathering.{gathered}
use Rattle.kernel_permute.proofs.gathering.gather.Given as goal

abbrev pub invariant-loop-k : goal.invariant-loop-k
invariant-loop-k l = take l.k l.to ++ gathered l.from (drop l.k l.places) ≡ gathered l.from l.places
