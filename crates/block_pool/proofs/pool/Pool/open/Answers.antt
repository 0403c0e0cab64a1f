use Rattle.std.proofs.Common.{◌∙◌}
use Rattle.block_pool.proofs.OpenedLemmas.{started-opened, free_in-opened, width-opened}
use Rattle.block_pool.proofs.pool.Pool.open.Goals as goal

pub returns-clause-start : goal.returns-clause-start
returns-clause-start c = c.in_ok-pool.ensures ∙ rw (c.as_slice.ensures, c.as_slice-2.ensures) (started-opened c.args.slots c.args.words)

pub returns-clause-free : goal.returns-clause-free
returns-clause-free c = rw (returns-clause-start c) (free_in-opened c.args.slots c.args.words)

pub returns-clause-wide : goal.returns-clause-wide
returns-clause-wide c = rw (returns-clause-start c) (width-opened c.args.slots c.args.words)
