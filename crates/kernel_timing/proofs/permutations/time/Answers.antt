use Rattle.std.proofs.Common.{refl}
use Rattle.kernel_permute.proofs.OrderLemmas.{order_from_test}
use Rattle.kernel_timing.proofs.permutations.time.Goals as goal

pub time_rank-requires-clause-order : goal.time_rank-requires-clause-order
time_rank-requires-clause-order c = order_from_test _ refl

pub time_any-requires-clause-order : goal.time_any-requires-clause-order
time_any-requires-clause-order c = order_from_test _ refl

pub time_rank-requires-2-clause-order : goal.time_rank-requires-2-clause-order
time_rank-requires-2-clause-order c = order_from_test _ refl

pub time_any-requires-2-clause-order : goal.time_any-requires-2-clause-order
time_any-requires-2-clause-order c = order_from_test _ refl

pub time_rank-requires-3-clause-order : goal.time_rank-requires-3-clause-order
time_rank-requires-3-clause-order c = order_from_test _ refl

pub time_any-requires-3-clause-order : goal.time_any-requires-3-clause-order
time_any-requires-3-clause-order c = order_from_test _ refl

pub time_rank-requires-4-clause-order : goal.time_rank-requires-4-clause-order
time_rank-requires-4-clause-order c = order_from_test _ refl

pub time_any-requires-4-clause-order : goal.time_any-requires-4-clause-order
time_any-requires-4-clause-order c = order_from_test _ refl
