use Rattle.sip_files.proofs.WritingLemmas.{append-wrote}
use Rattle.sip_files.proofs.file_sink.FileSinkSink.write.Goals as goal

pub returns : goal.returns
returns g c =
    let done = c.append.ensures in
    append-wrote c.append.result _ _ _ _ _ _ _ _ _ _ _ done.ok done.part done.others done.cause done.counts done.overlong done.loans
