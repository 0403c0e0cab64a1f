use Rattle.std.proofs.Common.{rules, ◌<◌, [], ◌∷◌, length, arith}
use Rattle.block_pool.proofs.Leases.{others, placed, keep_refl}
use Rattle.block_pool.proofs.LeaseLists.{place_is}
use Rattle.block_pool.proofs.Frames.{frames_other}
use Rattle.memory_tests.proofs.worker.Worker.send.Goals as goal

pub words-requires : goal.words-requires
words-requires c =
    let within : c.args.at < length c.args.self.now.blocks = search rules in
    c.requires.stands.owned.stands c.args.at c.in-Some.block (place_is _ c.args.at _ c.index-self-at.result within c.in-Some.is)

pub send_copy-lease-requires-clause-from : goal.send_copy-lease-requires-clause-from
send_copy-lease-requires-clause-from c =
    let within : c.args.at < length c.args.self.now.blocks = search rules in
    c.requires.stands.owned.stands c.args.at c.in-Some.block (place_is _ c.args.at _ c.index-self-at.result within c.in-Some.is)

pub returns-in_default-replace-clause-stands : goal.returns-in_default-replace-clause-stands
returns-in_default-replace-clause-stands c =
    let stands = c.requires.stands in
    let ch = c.send_copy-lease.ensures.changes in
    let st = c.send_copy-lease.ensures.was in
    record {
      owned = (others ch st (λ e. absurd cc) (keep_refl _ stands.owned)).holds;
      awaited = (others ch st (λ e. absurd cc) (keep_refl _ stands.awaited)).holds;
      cached = (others ch st (λ e. absurd cc) (keep_refl _ stands.cached)).holds;
      sending = rw c.replace.ensures.after (placed ch 0 (omega arith) st (λ e. absurd cc) (keep_refl (c.args.self.now.put ∷ []) stands.sending)).holds;
    }

pub returns-in_default-replace-clause-frame : goal.returns-in_default-replace-clause-frame
returns-in_default-replace-clause-frame c = frames_other c.send_copy-lease.ensures.changes c.args.self.now.blocks c.send_copy-lease.ensures.was (λ e. absurd cc)
