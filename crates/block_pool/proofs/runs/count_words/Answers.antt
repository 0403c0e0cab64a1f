use Rattle.std.proofs.Common.{◌∙◌, ap, ◌+◌}
use Rattle.block_pool.proofs.RunsLemmas.{counted}
use Rattle.block_pool.proofs.runs.count_words.Goals as goal

pub loop-run-preserved : goal.loop-run-preserved
loop-run-preserved c =
    counted c.args.runs.now c.loop-run.run-index c.loop-run.count c.in_ok-count.count (record { count = 0; width = 0 }) c.loop-run-test.true c.loop-run.invariant
    (c.in_ok-count.ensures.1 ∙ ap (λ n. n + c.loop-run.count) c.in_ok-checked_mul.ensures.1)
