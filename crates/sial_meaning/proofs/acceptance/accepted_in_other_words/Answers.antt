use Rattle.sial_meaning.proofs.AcceptedInOtherWords.Marks.{marks-find-first-clash}
use Rattle.sial_meaning.proofs.AcceptedInOtherWords.Counts.{pairs-say-counts}
use Rattle.sial_meaning.proofs.AcceptedInOtherWords.Refusals.{no-refusal-says-accepted}
use Rattle.sial_meaning.proofs.acceptance.accepted_in_other_words.Goals as goal

pub returns : goal.returns
returns c = record { counts = pairs-say-counts; refusal = no-refusal-says-accepted; marks = marks-find-first-clash }
