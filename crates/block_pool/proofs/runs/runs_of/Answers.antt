use Rattle.std.proofs.Common.{slice_index, refl}
use Rattle.block_pool.proofs.RunsLemmas.{run_added}
use Rattle.block_pool.proofs.runs.runs_of.Goals as goal

pub loop-class-preserved : goal.loop-class-preserved
loop-class-preserved c =
    let more = run_added c.loop-class.runs.items (record { count = slice_index c.args.counts.now c.loop-class.class; width = c.width_of-width.result }) c.args.counts.now (slice_index c.args.widths.now) c.loop-class.class _
    c.loop-class-test.true refl c.width_of-width.ensures c.loop-class.invariant in
    rw c.in_ok-push.ensures.items more
