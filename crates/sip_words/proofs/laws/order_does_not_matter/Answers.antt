use Rattle.sip_words.proofs.OrderLemmas.{order_is_free}
use Rattle.sip_words.proofs.laws.order_does_not_matter.Goals as goal

pub returns : goal.returns
returns c = order_is_free
