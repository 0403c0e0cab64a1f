use Rattle.std.proofs.Common.{refl}
use Rattle.kernel_permute.proofs.OrderLemmas.{order_from_test}
use Rattle.kernel_tests.proofs.ranks.each_rank_is_permuted.Goals as goal

pub permutes-requires-clause-order : goal.permutes-requires-clause-order
permutes-requires-clause-order g c = order_from_test _ refl

pub permutes-requires-2-clause-order : goal.permutes-requires-2-clause-order
permutes-requires-2-clause-order g c = order_from_test _ refl

pub permutes-requires-3-clause-order : goal.permutes-requires-3-clause-order
permutes-requires-3-clause-order g c = order_from_test _ refl

pub permutes-requires-4-clause-order : goal.permutes-requires-4-clause-order
permutes-requires-4-clause-order g c = order_from_test _ refl

pub permutes-requires-5-clause-order : goal.permutes-requires-5-clause-order
permutes-requires-5-clause-order g c = order_from_test _ refl

pub permutes-requires-6-clause-order : goal.permutes-requires-6-clause-order
permutes-requires-6-clause-order g c = order_from_test _ refl
