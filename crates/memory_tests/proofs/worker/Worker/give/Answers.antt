use Rattle.std.proofs.Common.{rules, ◌≡◌, ◌<◌, Some, length, sym}
use Rattle.block_pool.specs.Standing.{lease_at}
use Rattle.block_pool.proofs.Leases.{cleared, keep_refl}
use Rattle.block_pool.proofs.LeaseLists.{place_is}
use Rattle.block_pool.proofs.Frames.{frames_cleared, frames_all, stands_in_after}
use Rattle.memory_tests.proofs.worker.Worker.give.Goals as goal

pub give-requires : goal.give-requires
give-requires c =
    let within : c.args.at < length c.args.self.now.blocks = search rules in
    c.requires.stands.owned.stands c.args.at c.in-Some.lease (place_is _ c.args.at _ c.index-self-at.result within (sym c.in-Some.ensures.value))

pub returns-in-Some-clause-stands : goal.returns-in-Some-clause-stands
returns-in-Some-clause-stands c =
    let within : c.args.at < length c.args.self.now.blocks = search rules in
    let here : lease_at c.args.self.now.blocks c.args.at ≡ Some c.in-Some.lease = place_is _ c.args.at _ c.index-self-at.result within (sym c.in-Some.ensures.value) in
    let ch = c.give.ensures.changes in
    let st = c.requires.stands.owned.stands c.args.at c.in-Some.lease here in
    let left = cleared ch c.args.at here (keep_refl c.args.self.now.blocks c.requires.stands.owned) in
    stands_in_after (frames_all ch c.args.self.now.blocks c.args.at here st) (rw c.take.ensures.after left.holds) c.requires.stands

pub returns-in-Some-clause-frame : goal.returns-in-Some-clause-frame
returns-in-Some-clause-frame c =
    let within : c.args.at < length c.args.self.now.blocks = search rules in
    let here : lease_at c.args.self.now.blocks c.args.at ≡ Some c.in-Some.lease = place_is _ c.args.at _ c.index-self-at.result within (sym c.in-Some.ensures.value) in
    rw c.take.ensures.after (frames_cleared c.give.ensures.changes c.args.self.now.blocks c.args.at here)
