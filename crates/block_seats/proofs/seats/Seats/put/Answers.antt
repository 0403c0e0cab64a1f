use Rattle.block_seats.proofs.PuttingLemmas.{puts-then}
use Rattle.block_seats.proofs.seats.Seats.put.Goals as goal

pub returns-else-is_held : goal.returns-else-is_held
returns-else-is_held c = puts-then c.take.ensures c.write-else-is_held.ensures
