use Rattle.std.proofs.Common.{rules, ◌≡◌, replicate}
use Rattle.block_pool.specs.Cut.{total}
use Rattle.block_pool.specs.Runs.{widths_of}
use Rattle.block_pool.proofs.RunsLemmas.{zeros_at_first}
use Rattle.block_pool.proofs.rows.zero_rows.Goals as goal

pub returns : goal.returns
returns c =
    let words : c.in_ok-words.words.items ≡ replicate c.in_ok-count.count 0 = search rules in
    let count : c.in_ok-count.count ≡ total (widths_of c.in_ok-runs.runs.items) = search rules in
    rw (words, count) (zeros_at_first c.args.widths.now _ (widths_of c.in_ok-runs.runs.items) c.in_ok-runs.ensures)
