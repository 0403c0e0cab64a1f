use Rattle.block_pool.proofs.Counting.{width_after}
use Rattle.block_pool.proofs.Leases.{placed, keep_refl}
use Rattle.block_pool.proofs.Frames.{frames_placed, frames_all_free}
use Rattle.memory_tests.proofs.worker.take_at.Goals as goal

pub returns-in_default-clause-holds : goal.returns-in_default-clause-holds
returns-in_default-clause-holds c =
    let took = c.take_in-lease.ensures in
    rw c.replace.ensures.after (placed took.changes c.args.at c.requires.at took.was (λ e. absurd cc) (keep_refl c.args.blocks.now c.requires.holds)).holds

pub returns-in_default-clause-frame : goal.returns-in_default-clause-frame
returns-in_default-clause-frame c =
    let took = c.take_in-lease.ensures in
    rw c.replace.ensures.after (frames_placed took.changes took.was c.args.blocks.now c.args.at c.requires.at)

pub returns-in_default-clause-others : goal.returns-in_default-clause-others
returns-in_default-clause-others c = frames_all_free c.take_in-lease.ensures.changes c.args.blocks.now c.take_in-lease.ensures.was

pub returns-in_default-clause-wide : goal.returns-in_default-clause-wide
returns-in_default-clause-wide c = width_after c.take_in-lease.ensures.changes c.take_in-lease.ensures.was
