use Rattle.memory_tests.proofs.pool.a_sending_slot_keeps_its_words_while_all_others_come_and_go.Goals as goal

pub send-requires-clause-wide : goal.send-requires-clause-wide
send-requires-clause-wide g c = c.write.ensures.wide 16 2 (c.take.ensures.wide 16 2 (c.in_ok-pool.ensures.wide 16))
