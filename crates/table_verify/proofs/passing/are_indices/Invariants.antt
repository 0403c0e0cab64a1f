use Rattle.std.proofs.Common.{◌≡◌, drop}
use Rattle.std.specs.List.{enumerate_from, list_all}
use Rattle.sial_syntax.specs.Proper.{proper_index}
use Rattle.table_verify.proofs.passing.are_indices.Given as goal

abbrev pub invariant-loop-place : goal.invariant-loop-place
invariant-loop-place l = list_all proper_index (enumerate_from l.place (drop l.place l.indices)) ≡ list_all proper_index (enumerate_from 0 l.indices)
