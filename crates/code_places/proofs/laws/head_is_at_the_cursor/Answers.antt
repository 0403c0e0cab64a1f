use Rattle.code_places.proofs.HeadLemmas.{head_is}
use Rattle.code_places.proofs.laws.head_is_at_the_cursor.Goals as goal

pub returns : goal.returns
returns c = record { head = head_is }
