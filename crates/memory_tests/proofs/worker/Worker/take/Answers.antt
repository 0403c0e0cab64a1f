use Rattle.block_pool.proofs.Frames.{stands_in_after}
use Rattle.memory_tests.proofs.worker.Worker.take.Goals as goal

pub returns-clause-stands : goal.returns-clause-stands
returns-clause-stands c = stands_in_after c.take_at.ensures.others c.take_at.ensures.holds c.requires.stands
