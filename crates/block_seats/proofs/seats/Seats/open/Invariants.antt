use Rattle.std.proofs.Common.{◌≡◌, ◌≤◌, replicate, None}
use Rattle.std.specs.Prelude.{vec_capacity}
use Rattle.block_seats.proofs.seats.Seats.open.Given as goal

-- so many places without a block
abbrev pub invariant-loop-turn : goal.invariant-loop-turn
invariant-loop-turn l = record { made : l.leases.items ≡ replicate l._turn None; room : l.places ≤ vec_capacity l.leases }
