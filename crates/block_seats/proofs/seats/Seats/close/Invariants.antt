use Rattle.std.proofs.Common.{length}
use Rattle.block_seats.proofs.ClosingLemmas.{Giving}
use Rattle.block_seats.proofs.seats.Seats.close.Given as goal

-- the slots that are left still stand
abbrev pub invariant-loop-place : goal.invariant-loop-place
invariant-loop-place l = Giving l.fn.pool l.pool l.fn.self.slots l.leases.items

abbrev pub decreases-loop-place : goal.decreases-loop-place
decreases-loop-place l = length l.leases.items
