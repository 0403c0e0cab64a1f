use Rattle.std.proofs.Common.{lit<, lit≤, refl}
use Rattle.kernel_permute.proofs.OrderLemmas.{order_from_test}
use Rattle.kernel_tests.proofs.blocks.what_is_there_is_added_to_or_taken_from.Goals as goal

pub permute-requires : goal.permute-requires
permute-requires g c = (lit< tt, (lit< tt, (lit≤ tt, (order_from_test _ refl, (refl, refl)))))
