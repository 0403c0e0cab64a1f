use Rattle.std.proofs.Common.{◌≡◌, ◌<◌, ◌≤◌, length, replicate, set, Some, None, subst, sym, ◌∙◌}
use Rattle.block_pool.specs.Memory.{words_at}
use Rattle.block_pool.specs.Standing.{lease_at}
use Rattle.block_pool.proofs.LeaseLists.{place_is}
use Rattle.block_seats.specs.Seated.{Seated, SeatsStand}
use Rattle.block_seats.specs.Putting.{Puts}
use Rattle.block_seats.proofs.PuttingLemmas.{puts-taken}
use Rattle.block_seats.proofs.seats.Seats.take.Goals as goal
use Rattle.block_seats.proofs.seats.Seats.take.Goals.{in-Some, in-None}

pub returns : goal.returns
returns c =
    let seen : Seated = record { slots = c.self.inside.leases.items; lens = c.self.inside.lens.items } in
    let stands : SeatsStand c.args.pool.now seen = subst (λ (s : Seated). SeatsStand c.args.pool.now s) (sym c.self.view_is) c.requires.stands in
    let within : c.args.place < length seen.slots = subst (λ (s : Seated). c.args.place < length s.slots) (sym c.self.view_is) c.requires.at in
    let none : lease_at seen.slots c.args.place ≡ None = subst (λ (s : Seated). lease_at s.slots c.args.place ≡ None) (sym c.self.view_is) c.requires.empty in
    let took = c.take-lease.ensures in
    let fits : c.args.len ≤ length (words_at c.args.pool.now.words c.take-lease.result) = c.requires.wide c.take-lease.result took.was.within in
    let after : Seated = record { slots = set seen.slots c.args.place (Some c.take-lease.result); lens = set seen.lens c.args.place c.args.len } in
    elim c.match-replace.branch [
      | in-Some w ↦
          let there = place_is seen.slots c.args.place w.in-Some.old c.index_mut-2.result.now within (sym c.index_mut-2.ensures.value ∙ (sym c.replace.ensures.value ∙ w.in-Some.is)) in
          absurd (cc (none, there))
      | in-None w ↦ rw (w.pool-is, c.replace.ensures.after) (subst (λ (s : Seated). Puts c.args.pool.now c.take-lease.new.self s after c.args.place (Some (replicate c.args.len 0))) c.self.view_is
          (puts-taken seen c.args.place c.take-lease.result c.args.len stands within none fits took))
    ]
