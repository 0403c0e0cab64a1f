use Rattle.block_pool.proofs.Leases.{written, keep_refl, no_shared_swap}
use Rattle.block_pool.proofs.LeaseLists.{place_read}
use Rattle.block_pool.proofs.Frames.{frames_all}
use Rattle.block_pool.specs.declared.state.State.TheVariants.{Owned, Awaiting, Cached, Sending}
use Rattle.memory_tests.proofs.worker.deliver.Goals as goal

pub sending-requires : goal.sending-requires
sending-requires c = c.requires.worker.sending.stands 0 c.in-Some.from c.in-Some.is

pub words-requires : goal.words-requires
words-requires c = c.requires.home.stands c.args.at c.in-Some-home.into (place_read _ c.args.at _ c.index-home-at.result c.requires.at c.index-home-at.is c.in-Some-home.is)

pub meet-requires-clause-from : goal.meet-requires-clause-from
meet-requires-clause-from c = c.requires.worker.sending.stands 0 c.in-Some.from c.in-Some.is

pub meet-requires-clause-into : goal.meet-requires-clause-into
meet-requires-clause-into c = c.requires.home.stands c.args.at c.in-Some-home.into (place_read _ c.args.at _ c.index-home-at.result c.requires.at c.index-home-at.is c.in-Some-home.is)

pub returns-then-len-least-clause-worker : goal.returns-then-len-least-clause-worker
returns-then-len-least-clause-worker c =
    let stands = c.requires.worker in
    let here = place_read c.args.home.now c.args.at c.in-Some-home.into c.index-home-at.result c.requires.at c.index-home-at.is c.in-Some-home.is in
    let stay = (frames_all c.meet.ensures.changes c.args.home.now c.args.at here (c.requires.home.stands c.args.at c.in-Some-home.into here)).all_stay in
    record {
      owned = (stay Owned _ _ (λ e. absurd cc) (λ e. no_shared_swap c.requires.apart) (keep_refl _ stands.owned)).holds;
      awaited = (stay Awaiting _ _ (λ e. absurd cc) (λ e. absurd cc) (keep_refl _ stands.awaited)).holds;
      cached = (stay Cached _ _ (λ e. absurd cc) (λ e. absurd cc) (keep_refl _ stands.cached)).holds;
      sending = (stay Sending _ _ (λ e. absurd cc) (λ e. absurd cc) (keep_refl _ stands.sending)).holds;
    }

pub returns-then-len-least-clause-home : goal.returns-then-len-least-clause-home
returns-then-len-least-clause-home c =
    let here = place_read c.args.home.now c.args.at c.in-Some-home.into c.index-home-at.result c.requires.at c.index-home-at.is c.in-Some-home.is in
    (written c.meet.ensures.changes c.args.at here (keep_refl c.args.home.now c.requires.home)).holds
