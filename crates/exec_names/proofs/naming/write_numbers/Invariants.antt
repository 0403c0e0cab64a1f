use Rattle.std.proofs.Common.{◌≡◌, take, length}
use Rattle.exec_names.specs.Naming.{numbers_of}
use Rattle.exec_names.proofs.naming.write_numbers.Given as goal

-- the numbers up to here are written
abbrev pub invariant-loop-k : goal.invariant-loop-k
invariant-loop-k l = record {
  written : take l.k l.into ≡ numbers_of l.values (take l.k l.at);
  long : length l.into ≡ length l.at;
}
