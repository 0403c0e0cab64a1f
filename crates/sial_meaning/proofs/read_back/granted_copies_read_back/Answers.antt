use Rattle.sial_meaning.proofs.AssignmentsReadBack.Copies.{each-is-one-of-three, copies-read-back, slices-read-back, insertions-read-back, insertions-leave-the-rest}
use Rattle.sial_meaning.proofs.read_back.granted_copies_read_back.Goals as goal

pub returns : goal.returns
returns c = record { one_of_three = each-is-one-of-three; copy = copies-read-back; slice = slices-read-back; insertion = insertions-read-back; rest = insertions-leave-the-rest }
