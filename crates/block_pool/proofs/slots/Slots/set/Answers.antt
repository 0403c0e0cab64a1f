use Rattle.std.proofs.Common.{refl}
use Rattle.block_pool.proofs.OccupiedLemmas.{tied_moved}
use Rattle.block_pool.proofs.slots.Slots.set.Goals as goal

pub invariant_of-self : goal.invariant_of-self
invariant_of-self c =
    tied_moved _ _ _ c.args.slot _ c.self.invariant (rw (← c.self.view_is) at c.requires.within) refl (rw (← c.self.view_is) at c.requires.taken) c.args.state c.requires.state
