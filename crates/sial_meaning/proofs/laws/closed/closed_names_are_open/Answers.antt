use Rattle.sial_meaning.proofs.Granted.ClosedNames.{closed-names-are-open, local-steps-keep-the-frame}
use Rattle.sial_meaning.proofs.laws.closed.closed_names_are_open.Goals as goal

pub returns : goal.returns
returns c = record { names = closed-names-are-open; frame = local-steps-keep-the-frame }
