use Rattle.std.proofs.Common.{◌<◌, length, subst, sym, ◌∙◌}
use Rattle.block_pool.proofs.LeaseLists.{place_is}
use Rattle.block_seats.specs.Seated.{Seated, SeatsStand}
use Rattle.block_seats.proofs.seats.Seats.words.Goals as goal

pub words-requires : goal.words-requires
words-requires c =
    let seen : Seated = record { slots = c.self.inside.leases.items; lens = c.self.inside.lens.items } in
    let stands : SeatsStand c.args.pool.now seen = subst (λ (s : Seated). SeatsStand c.args.pool.now s) (sym c.self.view_is) c.requires.stands in
    let within : c.args.place < length seen.slots = subst (λ (s : Seated). c.args.place < length s.slots) (sym c.self.view_is) c.requires.at in
    stands.holds.stands c.args.place c.in-Some.lease (place_is seen.slots c.args.place c.in-Some.lease c.index.result.now within (sym c.index.ensures ∙ c.in-Some.is))
