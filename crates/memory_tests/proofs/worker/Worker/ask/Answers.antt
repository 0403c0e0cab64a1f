use Rattle.std.proofs.Common.{[], ◌∷◌, arith}
use Rattle.block_pool.proofs.OneChange.{changes_twice}
use Rattle.block_pool.proofs.Leases.{others, placed, keep_refl}
use Rattle.block_pool.proofs.Frames.{frames_other}
use Rattle.memory_tests.proofs.worker.Worker.ask.Goals as goal

pub returns-in_default-clause-stands : goal.returns-in_default-clause-stands
returns-in_default-clause-stands c =
    let stands = c.requires.stands in
    let took = c.take_in-lease.ensures in
    let st = took.was in
    let same = c.expect-lease.ensures.lease in
    let expected = changes_twice st took.changes c.expect-lease.ensures.after.changes in
    let filled = changes_twice st expected (rw same at c.fill.ensures.changes) in
    let ch = changes_twice st filled (rw same at c.arrive-lease.ensures.after.changes) in
    record {
      owned = (others ch st (λ e. absurd cc) (keep_refl _ stands.owned)).holds;
      awaited = (others ch st (λ e. absurd cc) (keep_refl _ stands.awaited)).holds;
      cached = rw (c.replace.ensures.after, c.arrive-lease.ensures.lease, same) (placed ch 0 (omega arith) st (λ e. absurd cc) (keep_refl (c.args.self.now.cached ∷ []) stands.cached)).holds;
      sending = (others ch st (λ e. absurd cc) (keep_refl _ stands.sending)).holds;
    }

pub returns-in_default-clause-frame : goal.returns-in_default-clause-frame
returns-in_default-clause-frame c =
    let took = c.take_in-lease.ensures in
    let st = took.was in
    let same = c.expect-lease.ensures.lease in
    let expected = changes_twice st took.changes c.expect-lease.ensures.after.changes in
    let filled = changes_twice st expected (rw same at c.fill.ensures.changes) in
    let ch = changes_twice st filled (rw same at c.arrive-lease.ensures.after.changes) in
    frames_other ch c.args.self.now.blocks st (λ e. absurd cc)
