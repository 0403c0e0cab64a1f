use Rattle.std.proofs.Common.{◌≡◌, [], drop, map}
use Rattle.std.specs.List.{enumerate_from}
use Rattle.sial_syntax.specs.Tree.{procedure}
use Rattle.table_verify.specs.Rest.{seen}
use Rattle.table_verify.specs.Names.{each}
use Rattle.table_verify.specs.Reading as spec
use Rattle.table_verify.proofs.verifier.filled.Given as goal

abbrev pub invariant-loop-number : goal.invariant-loop-number
invariant-loop-number l =
    each (spec.filled l.whole.entries.now l.whole.len) (map procedure l.filled.items) (enumerate_from l.number (map procedure (drop l.number l.named))) (seen l.rest)
    ≡ each (spec.filled l.whole.entries.now l.whole.len) [] (enumerate_from 0 (map procedure l.named)) (seen l.start)
