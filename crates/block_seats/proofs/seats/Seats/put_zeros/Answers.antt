use Rattle.block_seats.proofs.PuttingLemmas.{puts-then}
use Rattle.block_seats.proofs.RoomLemmas.{room-gone, slot-gone}
use Rattle.block_seats.proofs.seats.Seats.put_zeros.Goals as goal

pub take-requires-clause-empty : goal.take-requires-clause-empty
take-requires-clause-empty c = slot-gone c.clear.ensures

pub take-requires-clause-room : goal.take-requires-clause-room
take-requires-clause-room c = room-gone c.args.self.now c.clear.new.self c.args.place c.requires.stands c.requires.at c.requires.room c.clear.ensures

pub returns : goal.returns
returns c = puts-then c.clear.ensures c.take.ensures
