-- Room for blocks, while one is put down after another.
use Rattle.std.proofs.Common.{◌≡◌, ℕ, ◌+◌, ◌<◌, ◌≤◌, List, length, false, Option, Some, None, ap, refl, arith}
use Rattle.std.specs.Prelude.{is_none, is_some}
use Rattle.block_pool.specs.Memory.{Memory, free_in, last_class, one_if}
use Rattle.block_pool.specs.Standing.{lease_at}
use Rattle.block_seats.specs.Counted.{HasRunRoom}
use Rattle.block_seats.specs.Putting.{Puts}
use Rattle.block_seats.specs.Seated.{Seated, SeatsStand}
use Rattle.block_seats.proofs.CountLemmas.{empty-one, empty-some, here-held, none-by-some, others-held, puts-free, some-or-none}

-- a run that has room has a slot for each of its places that has no block
pub room-here : (p : Memory) (s : Seated) (first count place : ℕ) → HasRunRoom p s first count → first ≤ place → place < first + count → lease_at s.slots place ≡ None → 0 < free_in p last_class
room-here p s first count place room low high none = let some = empty-some s.slots first count place low high none in omega (arith, some, room.free)

-- it still has room once a block is put down at one of them
pub room-after : {p p1 : Memory} {s s1 : Seated} (first count place : ℕ) (w : List ℕ) → HasRunRoom p s first count → first ≤ place → place < first + count → Puts p p1 s s1 place (Some w) → HasRunRoom p1 s1 first count
room-after {p} {p1} {s} {s1} first count place w room low high puts =
    let inside : place < length s.slots = omega (arith, high, room.within) in
    let slots = puts-free s s1 place (Some w) room.stands inside puts in
    let places = empty-one s.slots s1.slots first count place low high (others-held puts) in
    let held : one_if (is_none (lease_at s1.slots place)) ≡ 0 = ap one_if (none-by-some (lease_at s1.slots place) (Some 0) (here-held puts)) in
    let was = some-or-none (lease_at s.slots place) in
    record {
      stands = puts.stands;
      within = omega (arith, room.within, puts.places);
      free = omega (arith, slots, places, held, was, room.free);
    }

-- no slot is where no block is
pub slot-gone : {p p1 : Memory} {s s1 : Seated} {place : ℕ} → Puts p p1 s s1 place None → lease_at s1.slots place ≡ None
slot-gone {p} {p1} {s} {s1} {place} puts = by (lease_at s1.slots place) (here-held puts)
  where
    by : (o : Option ℕ) → is_some o ≡ false → o ≡ None
    by None is = refl
    by (Some t) is = absurd cc

-- where there was room for a block at a place, a slot is free once the block there is taken away
pub room-gone : {p p1 : Memory} (s s1 : Seated) (place : ℕ) → SeatsStand p s → place < length s.slots → (lease_at s.slots place ≡ None → 0 < free_in p last_class) → Puts p p1 s s1 place None → 0 < free_in p1 last_class
room-gone {p} {p1} s s1 place stands within room puts = by (lease_at s.slots place) refl
  where
    slots : free_in p1 last_class + 0 ≡ free_in p last_class + one_if (is_some (lease_at s.slots place))
    slots = puts-free s s1 place None stands within puts

    by : (o : Option ℕ) → lease_at s.slots place ≡ o → 0 < free_in p1 last_class
    by None is = let free = room is in omega (arith, free, slots)
    by (Some t) is = let one : one_if (is_some (lease_at s.slots place)) ≡ 1 = ap (λ (o : Option ℕ). one_if (is_some o)) is in omega (arith, one, slots)
