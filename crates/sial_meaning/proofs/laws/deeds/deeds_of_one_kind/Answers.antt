use Rattle.sial_meaning.proofs.DeedsOfOneKind.Order.{order_is_free}
use Rattle.sial_meaning.proofs.DeedsOfOneKind.Sums.{adds_come, maxes_come, maxes_count, store_is, others_stay}
use Rattle.sial_meaning.proofs.laws.deeds.deeds_of_one_kind.Goals as goal

pub returns : goal.returns
returns c = record { adds = adds_come; maxes = maxes_come; counts = maxes_count; store = store_is; none = others_stay; order = order_is_free }
