use Rattle.block_pool.proofs.Leases.{keep_refl}
use Rattle.memory_tests.proofs.pool.a_put_is_delivered_to_a_home_in_the_same_pool.Goals as goal

pub work-requires-clause-wide : goal.work-requires-clause-wide
work-requires-clause-wide g c = c.take_at.ensures.wide 16 2 (c.in_ok-pool.ensures.wide 16)

pub end_blocks-requires : goal.end_blocks-requires
end_blocks-requires g c = (c.close.ensures.others_stay c.take_at.new.blocks _ c.work.ensures.apart (keep_refl c.take_at.new.blocks c.deliver-5.ensures.home)).0.holds
