use Rattle.std.proofs.Common.{◌<◌, length, set, None, subst, sym, ◌∙◌}
use Rattle.std.proofs.lemmas.List.{get_or_default}
use Rattle.block_pool.proofs.LeaseLists.{place_is}
use Rattle.block_seats.specs.Seated.{Seated, SeatsStand}
use Rattle.block_seats.specs.Putting.{Puts}
use Rattle.block_seats.proofs.PuttingLemmas.{puts-cleared, puts-nothing}
use Rattle.block_seats.proofs.seats.Seats.clear.Goals as goal
use Rattle.block_seats.proofs.seats.Seats.clear.Goals.{in-Some, in-None}

pub give-requires : goal.give-requires
give-requires c =
    let seen : Seated = record { slots = c.self.inside.leases.items; lens = c.self.inside.lens.items } in
    let stands : SeatsStand c.args.pool.now seen = subst (λ (s : Seated). SeatsStand c.args.pool.now s) (sym c.self.view_is) c.requires.stands in
    let within : c.args.place < length seen.slots = subst (λ (s : Seated). c.args.place < length s.slots) (sym c.self.view_is) c.requires.at in
    stands.holds.stands c.args.place c.in-Some.lease (place_is seen.slots c.args.place c.in-Some.lease c.index_mut.result.now within (sym c.index_mut.ensures.value ∙ sym c.in-Some.ensures.value))

pub returns : goal.returns
returns c =
    let seen : Seated = record { slots = c.self.inside.leases.items; lens = c.self.inside.lens.items } in
    let stands : SeatsStand c.args.pool.now seen = subst (λ (s : Seated). SeatsStand c.args.pool.now s) (sym c.self.view_is) c.requires.stands in
    let within : c.args.place < length seen.slots = subst (λ (s : Seated). c.args.place < length s.slots) (sym c.self.view_is) c.requires.at in
    let after : Seated = record { slots = set seen.slots c.args.place None; lens = seen.lens } in
    elim c.match-take.branch [
      | in-Some w ↦ rw (w.pool-is, c.take.ensures.after) (subst (λ (s : Seated). Puts c.args.pool.now w.give.new.self s after c.args.place None) c.self.view_is
          (puts-cleared seen c.args.place w.in-Some.lease stands (place_is seen.slots c.args.place w.in-Some.lease c.index_mut.result.now within (sym c.index_mut.ensures.value ∙ sym w.in-Some.ensures.value)) w.give.ensures))
      | in-None w ↦ rw (w.pool-is, c.take.ensures.after) (subst (λ (s : Seated). Puts c.args.pool.now c.args.pool.now s after c.args.place None) c.self.view_is
          (puts-nothing seen c.args.place stands (get_or_default seen.slots c.args.place None c.index_mut.result.now within ∙ (sym c.index_mut.ensures.value ∙ (sym c.take.ensures.value ∙ w.in-None.is)))))
    ]
