use Rattle.std.proofs.Common.{◌∙◌}
use Rattle.std.proofs.lemmas.List.{get_or_default}
use Rattle.block_pool.proofs.OccupiedLemmas.{tied_freed}
use Rattle.block_pool.proofs.slots.Slots.give.Goals as goal

pub invariant_of-self : goal.invariant_of-self
invariant_of-self c =
    let r = c.try_remove.ensures in
    let within = rw (← c.self.view_is) at c.requires.within in
    tied_freed _ _ _ c.args.slot c.index.result.now c.self.invariant within (c.index.ensures ∙ get_or_default c.self.inside.classes.items c.args.slot _ 0 within) (rw (← c.self.view_is) at c.requires.taken)
    c.index_mut-group.result.now c.try_remove.new.self c.try_remove.result c.index_mut-group.ensures.value r.value r.updates r.len r.capacity
