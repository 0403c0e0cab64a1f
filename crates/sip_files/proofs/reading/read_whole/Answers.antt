use Rattle.std.proofs.Common.{rules}
use Rattle.sip_files.proofs.StreamLemmas.{read_all}
use Rattle.sip_files.proofs.reading.read_whole.Goals as goal

pub returns-in-Ok-clause-ok : goal.returns-in-Ok-clause-ok
returns-in-Ok-clause-ok g c =
    read_all g.R.Read.remaining _ c.take.result.inner c.take.result.limit c.args.into.now.items _ c.take.ensures.inner c.requires (search rules) c.in-Ok.ensures.bytes
