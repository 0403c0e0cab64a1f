use Rattle.std.proofs.Common.{rules, ◌≡◌, ◌<◌, ◌∙◌, ap, Some, ℕ, List, length}
use Rattle.block_pool.specs.declared.state.State.TheVariants.{Owned}
use Rattle.block_pool.specs.Standing.{lease_at}
use Rattle.block_pool.proofs.OneChange.{refilled_changes}
use Rattle.block_pool.proofs.Leases.{written, keep_refl}
use Rattle.block_pool.proofs.Counting.{width_after}
use Rattle.block_pool.proofs.LeaseLists.{place_is}
use Rattle.block_pool.proofs.Frames.{frames_own, frames_all, stands_in_after}
use Rattle.memory_tests.proofs.worker.Worker.write.Goals as goal

pub words_mut-requires : goal.words_mut-requires
words_mut-requires c =
    let within : c.args.at < length c.args.self.now.blocks = search rules in
    c.requires.stands.owned.stands c.args.at c.in-Some.lease (place_is _ c.args.at _ c.index-self-at.result within c.in-Some.is)

pub returns-in-Some-clause-stands : goal.returns-in-Some-clause-stands
returns-in-Some-clause-stands c =
    let within : c.args.at < length c.args.self.now.blocks = search rules in
    let here : lease_at c.args.self.now.blocks c.args.at ≡ Some c.in-Some.lease = place_is _ c.args.at _ c.index-self-at.result within c.in-Some.is in
    let st = c.requires.stands.owned.stands c.args.at c.in-Some.lease here in
    let ch = refilled_changes c.args.pool.now c.in-Some.lease Owned c.fill.new.self st (c.fill.ensures.len ∙ ap (λ (w : List ℕ). length w) c.words_mut.ensures.value) in
    stands_in_after (frames_all ch c.args.self.now.blocks c.args.at here st) (written ch c.args.at here (keep_refl c.args.self.now.blocks c.requires.stands.owned)).holds c.requires.stands

pub returns-in-Some-clause-frame : goal.returns-in-Some-clause-frame
returns-in-Some-clause-frame c =
    let within : c.args.at < length c.args.self.now.blocks = search rules in
    let here : lease_at c.args.self.now.blocks c.args.at ≡ Some c.in-Some.lease = place_is _ c.args.at _ c.index-self-at.result within c.in-Some.is in
    let st = c.requires.stands.owned.stands c.args.at c.in-Some.lease here in
    let ch = refilled_changes c.args.pool.now c.in-Some.lease Owned c.fill.new.self st (c.fill.ensures.len ∙ ap (λ (w : List ℕ). length w) c.words_mut.ensures.value) in
    frames_own ch c.args.self.now.blocks c.args.at here

pub returns-in-Some-clause-wide : goal.returns-in-Some-clause-wide
returns-in-Some-clause-wide c =
    let within : c.args.at < length c.args.self.now.blocks = search rules in
    let here : lease_at c.args.self.now.blocks c.args.at ≡ Some c.in-Some.lease = place_is _ c.args.at _ c.index-self-at.result within c.in-Some.is in
    let st = c.requires.stands.owned.stands c.args.at c.in-Some.lease here in
    width_after (refilled_changes c.args.pool.now c.in-Some.lease Owned c.fill.new.self st (c.fill.ensures.len ∙ ap (λ (w : List ℕ). length w) c.words_mut.ensures.value)) st
