use Rattle.std.proofs.Common.{lit<, lit≤, refl}
use Rattle.kernel_permute.proofs.OrderLemmas.{order_from_test}
use Rattle.kernel_tests.proofs.blocks.a_block_of_two_rows_is_turned_cut_and_patched.Goals as goal

pub permute-requires : goal.permute-requires
permute-requires g c = (lit< tt, (lit< tt, (lit≤ tt, (order_from_test _ refl, (refl, refl)))))
