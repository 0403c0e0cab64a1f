use Rattle.std.proofs.Common.{rules}
use Rattle.sip_files.proofs.StreamLemmas.{took_more, took_all}
use Rattle.sip_files.proofs.writing.write_whole.Goals as goal

pub returns-then-is_empty-clause-ok : goal.returns-then-is_empty-clause-ok
returns-then-is_empty-clause-ok g c = took_all c.loop.invariant (search rules)

pub loop-preserved : goal.loop-preserved
loop-preserved g c = took_more c.loop.invariant c.in_ok-rest.ensures.ok
