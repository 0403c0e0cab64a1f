use Rattle.shared_blocks.proofs.StandLemmas.{deletes_keep_words}
use Rattle.shared_blocks.proofs.laws.deletes_keep_words.Goals as goal

pub returns : goal.returns
returns c = deletes_keep_words
