use Rattle.sial_meaning.proofs.WritesFitTheirBlocks.Course.{writes-fit}
use Rattle.sial_meaning.proofs.WritesFitTheirBlocks.Epochs.{epoch-writes-fit}
use Rattle.sial_meaning.proofs.laws.along.writes_fit_their_blocks.Goals as goal

pub returns : goal.returns
returns c = record { step = writes-fit; epoch = epoch-writes-fit }
