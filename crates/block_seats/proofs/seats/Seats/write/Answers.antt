use Rattle.std.proofs.Common.{◌≡◌, ◌<◌, length, set, true, Some, None, subst, sym, ap, ◌∙◌}
use Rattle.std.specs.Prelude.{is_some}
use Rattle.block_pool.specs.Standing.{lease_at}
use Rattle.block_pool.proofs.LeaseLists.{place_is}
use Rattle.std.proofs.lemmas.List.{get_or_default}
use Rattle.block_seats.specs.Seated.{Seated, SeatsStand}
use Rattle.block_seats.specs.Putting.{Puts}
use Rattle.block_seats.proofs.PuttingLemmas.{puts-written}
use Rattle.block_seats.proofs.seats.Seats.write.Goals as goal
use Rattle.block_seats.proofs.seats.Seats.write.Goals.{in-Some, in-None}

pub write_slot-requires-clause-stands : goal.write_slot-requires-clause-stands
write_slot-requires-clause-stands c =
    let seen : Seated = record { slots = c.self.inside.leases.items; lens = c.self.inside.lens.items } in
    let stands : SeatsStand c.args.pool.now seen = subst (λ (s : Seated). SeatsStand c.args.pool.now s) (sym c.self.view_is) c.requires.stands in
    let within : c.args.place < length seen.slots = subst (λ (s : Seated). c.args.place < length s.slots) (sym c.self.view_is) c.requires.at in
    stands.holds.stands c.args.place c.in-Some.lease (place_is seen.slots c.args.place c.in-Some.lease c.index.result.now within (sym c.index.ensures ∙ c.in-Some.is))

pub write_slot-requires-clause-fits : goal.write_slot-requires-clause-fits
write_slot-requires-clause-fits c =
    let seen : Seated = record { slots = c.self.inside.leases.items; lens = c.self.inside.lens.items } in
    let stands : SeatsStand c.args.pool.now seen = subst (λ (s : Seated). SeatsStand c.args.pool.now s) (sym c.self.view_is) c.requires.stands in
    let within : c.args.place < length seen.slots = subst (λ (s : Seated). c.args.place < length s.slots) (sym c.self.view_is) c.requires.at in
    c.requires.wide c.in-Some.lease (stands.holds.stands c.args.place c.in-Some.lease (place_is seen.slots c.args.place c.in-Some.lease c.index.result.now within (sym c.index.ensures ∙ c.in-Some.is))).within

pub returns : goal.returns
returns c =
    let seen : Seated = record { slots = c.self.inside.leases.items; lens = c.self.inside.lens.items } in
    let stands : SeatsStand c.args.pool.now seen = subst (λ (s : Seated). SeatsStand c.args.pool.now s) (sym c.self.view_is) c.requires.stands in
    let within : c.args.place < length seen.slots = subst (λ (s : Seated). c.args.place < length s.slots) (sym c.self.view_is) c.requires.at in
    let held : is_some (lease_at seen.slots c.args.place) ≡ true = subst (λ (s : Seated). is_some (lease_at s.slots c.args.place) ≡ true) (sym c.self.view_is) c.requires.held in
    let after : Seated = record { slots = seen.slots; lens = set seen.lens c.args.place (length c.args.words.now) } in
    elim c.match-index.branch [
      | in-Some w ↦
          let here = place_is seen.slots c.args.place w.in-Some.lease c.index.result.now within (sym c.index.ensures ∙ w.in-Some.is) in
          let fits = c.requires.wide w.in-Some.lease (stands.holds.stands c.args.place w.in-Some.lease here).within in
          rw (w.pool-is, w.self-inside-is) (subst (λ (s : Seated). Puts c.args.pool.now w.write_slot.new.pool s after c.args.place (Some c.args.words.now)) c.self.view_is
          (puts-written seen c.args.place w.in-Some.lease c.args.words.now stands here fits w.write_slot.ensures))
      | in-None w ↦
          let none : lease_at seen.slots c.args.place ≡ None = get_or_default seen.slots c.args.place None c.index.result.now within ∙ (sym c.index.ensures ∙ w.in-None.is) in
          absurd (cc (ap is_some none, held))
    ]
