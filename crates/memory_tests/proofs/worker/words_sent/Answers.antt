use Rattle.memory_tests.proofs.worker.words_sent.Goals as goal

pub sending-requires : goal.sending-requires
sending-requires c = c.requires.sending.stands 0 c.in-Some.lease c.in-Some.is
