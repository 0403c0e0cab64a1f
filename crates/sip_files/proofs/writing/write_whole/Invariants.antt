use Rattle.sip_files.specs.Stream.{Took}
use Rattle.sip_files.proofs.writing.write_whole.Given as goal

abbrev pub invariant-loop : goal.invariant-loop
invariant-loop g l = Took (g.W.Write.contents l.fn.stream) (g.W.Write.contents l.stream) l.fn.bytes l.rest
