use Rattle.sial_meaning.proofs.EpochsAgree.Fold.{same_refusal, same_log, same_outcome}
use Rattle.sial_meaning.proofs.EpochsAgree.Steps.{same_states}
use Rattle.sial_meaning.proofs.laws.epochs.epochs_agree_up_to_the_first_refusal.Goals as goal

pub returns : goal.returns
returns c = record { refusal = same_refusal; log = same_log; outcome = same_outcome; states = same_states }
