use Rattle.sial_meaning.proofs.AcceptedInOtherWords.EpochOrder.{epochs-never-fall, marks-find-clash-of-program}
use Rattle.sial_meaning.proofs.acceptance.epochs_in_order.Goals as goal

pub returns : goal.returns
returns c = record { order = epochs-never-fall; marks = marks-find-clash-of-program }
