use Rattle.sial_meaning.proofs.AssignmentsReadBack.Elements.{copies-by-name, slices-by-position, inserts-by-position, insertions-keep-others}
use Rattle.sial_meaning.proofs.read_back.copies_read_back.Goals as goal

pub returns : goal.returns
returns c = record { copy = copies-by-name; slice = slices-by-position; insertion = inserts-by-position; others = insertions-keep-others }
