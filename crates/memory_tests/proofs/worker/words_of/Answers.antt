use Rattle.block_pool.proofs.LeaseLists.{place_read}
use Rattle.memory_tests.proofs.worker.words_of.Goals as goal

pub words-requires : goal.words-requires
words-requires c = c.requires.holds.stands c.args.at c.in-Some.lease (place_read _ c.args.at _ c.index-blocks-at.result c.requires.at c.index-blocks-at.is c.in-Some.is)
