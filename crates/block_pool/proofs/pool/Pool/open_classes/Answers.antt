use Rattle.std.proofs.Common.{◌≡◌, ◌∙◌, refl, arith}
use Rattle.block_pool.specs.Opened.{opened_classes}
use Rattle.block_pool.proofs.OpenedLemmas.{free_in-opened_classes, width-opened_classes}
use Rattle.block_pool.proofs.WidestLemmas.{widest-is}
use Rattle.block_pool.proofs.pool.Pool.open_classes.Goals as goal

start : (c : goal.In_ok-pool) → c.in_ok-pool.pool ≡ opened_classes c.args.slots.now c.args.widths.now
start c = c.in_ok-pool.ensures ∙ rw (c.as_slice-2.ensures, c.as_slice-3.ensures, c.widest_of-widest.ensures, c.as_slice.ensures) refl

pub returns-clause-free : goal.returns-clause-free
returns-clause-free c = rw (start c) (free_in-opened_classes c.args.slots.now c.args.widths.now)

pub returns-clause-wide : goal.returns-clause-wide
returns-clause-wide c = rw (start c) (width-opened_classes c.args.slots.now c.args.widths.now)

pub returns-clause-widest : goal.returns-clause-widest
returns-clause-widest c = rw (start c) (widest-is c.args.widths.now (omega (arith, c.told-widths)))
