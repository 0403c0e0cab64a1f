use Rattle.std.proofs.Common.{ℕ, subst, sym}
use Rattle.block_pool.specs.declared.state.State.TheVariants.{Owned}
use Rattle.block_pool.proofs.OneChange.{stands_at, refilled_stands}
use Rattle.block_pool.proofs.Beside.{Beside, beside_taken, beside_written}
use Rattle.memory_tests.proofs.pool.a_front_is_copied_within_a_pool.Goals as goal

pub copy_front_within-requires-clause-lease : goal.copy_front_within-requires-clause-lease
copy_front_within-requires-clause-lease g c =
    let first = refilled_stands c.take-block.new.self c.take-block.result c.copy_from_slice.new.self Owned c.take-block.result (stands_at c.take-block.ensures.changes c.take-block.ensures.was) in
    let taken = beside_taken _ _ _ _ _ _ _ first c.take-into.ensures in
    (beside_written _ _ _ _ _ _ taken c.expect-into.ensures.after).stands

pub give-requires : goal.give-requires
give-requires g c =
    let first = refilled_stands c.take-block.new.self c.take-block.result c.copy_from_slice.new.self Owned c.take-block.result (stands_at c.take-block.ensures.changes c.take-block.ensures.was) in
    let taken = beside_taken _ _ _ _ _ _ _ first c.take-into.ensures in
    let expected = subst (λ (n : ℕ). Beside c.expect-into.new.self c.take-block.result n) (sym c.expect-into.ensures.lease) (beside_written _ _ _ _ _ _ taken c.expect-into.ensures.after) in
    let copied = beside_written _ _ _ _ _ _ expected c.copy_front_within.ensures in
    let arrived = subst (λ (n : ℕ). Beside c.arrive-cached.new.self c.take-block.result n) (sym c.arrive-cached.ensures.lease) (beside_written _ _ _ _ _ _ copied c.arrive-cached.ensures.after) in
    (beside_written _ _ _ _ _ _ arrived c.drop_cached.ensures).stands
