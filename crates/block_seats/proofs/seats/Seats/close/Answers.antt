use Rattle.std.proofs.Common.{◌∙◌}
use Rattle.block_pool.proofs.Frames.{last_lease}
use Rattle.block_seats.proofs.ClosingLemmas.{giving-step}
use Rattle.block_seats.proofs.seats.Seats.close.Goals as goal

pub give_back-requires : goal.give_back-requires
give_back-requires c = λ x e.
    let held = rw c.in-Some.ensures.items at c.loop-place.invariant.holds in
    held.stands _ x (last_lease c.pop.new.self.items c.in-Some.place ∙ e)

pub loop-place-preserved : goal.loop-place-preserved
loop-place-preserved c =
    giving-step c.args.pool.now c.loop-place.pool c.give_back.new.pool c.args.self.slots c.loop-place.leases.items c.pop.new.self.items c.in-Some.place c.loop-place.invariant c.in-Some.ensures.items c.give_back.ensures.some c.give_back.ensures.none
