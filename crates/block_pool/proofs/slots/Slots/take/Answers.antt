use Rattle.std.proofs.Common.{rules, ◌+◌, ◌<◌, length}
use Rattle.block_pool.proofs.VacantLemmas.{known_class, has_room}
use Rattle.block_pool.proofs.OccupiedLemmas.{vacant_state, taken_within, taken_listed, taken_class, tied_taken}
use Rattle.block_pool.proofs.slots.Slots.take.Goals as goal

pub index_mut-group-requires : goal.index_mut-group-requires
index_mut-group-requires c =
    let known : c.args.class < length c.self.inside.groups.items = known_class _ _ _ c.args.class c.self.invariant (rw (← c.self.view_is) at c.requires.free) in
    search rules

pub insert_reserved-requires : goal.insert_reserved-requires
insert_reserved-requires c =
    has_room _ _ _ c.args.class c.index_mut-group.result.now c.self.invariant (rw (← c.self.view_is) at c.requires.free) c.index_mut-group.ensures.value

pub overflow_add-slot : goal.overflow_add-slot
overflow_add-slot c =
    let r = c.insert_reserved.ensures in
    let within : c.index_mut-group.result.now.first + c.insert_reserved.result < length c.self.inside.classes.items =
    taken_within _ _ _ c.args.class c.insert_reserved.result c.index_mut-group.result.now c.insert_reserved.new.self c.self.invariant (rw (← c.self.view_is) at c.requires.free)
    c.index_mut-group.ensures.value r.was_vacant r.key_in_range r.capacity in
    search rules

pub index_mut-requires : goal.index_mut-requires
index_mut-requires c =
    let r = c.insert_reserved.ensures in
    let within : c.index_mut-group.result.now.first + c.insert_reserved.result < length c.self.inside.states.items =
    taken_listed _ _ _ c.args.class c.insert_reserved.result c.index_mut-group.result.now c.insert_reserved.new.self c.self.invariant (rw (← c.self.view_is) at c.requires.free)
    c.index_mut-group.ensures.value r.was_vacant r.key_in_range r.capacity in
    search rules

pub invariant_of-self : goal.invariant_of-self
invariant_of-self c =
    let r = c.insert_reserved.ensures in
    tied_taken _ _ _ c.args.class c.insert_reserved.result c.index_mut-group.result.now c.insert_reserved.new.self c.self.invariant (rw (← c.self.view_is) at c.requires.free)
    c.index_mut-group.ensures.value r.was_vacant r.key_in_range r.capacity c.args.state c.requires.state r.updates r.len

pub returns-clause-was : goal.returns-clause-was
returns-clause-was c =
    let r = c.insert_reserved.ensures in
    rw (← c.self.view_is) (vacant_state _ _ _ c.args.class c.insert_reserved.result c.index_mut-group.result.now c.insert_reserved.new.self c.self.invariant (rw (← c.self.view_is) at c.requires.free)
    c.index_mut-group.ensures.value r.was_vacant r.key_in_range r.capacity)

pub returns-clause-within : goal.returns-clause-within
returns-clause-within c =
    let r = c.insert_reserved.ensures in
    rw (← c.self.view_is) (taken_within _ _ _ c.args.class c.insert_reserved.result c.index_mut-group.result.now c.insert_reserved.new.self c.self.invariant (rw (← c.self.view_is) at c.requires.free)
    c.index_mut-group.ensures.value r.was_vacant r.key_in_range r.capacity)

pub returns-clause-class : goal.returns-clause-class
returns-clause-class c =
    let r = c.insert_reserved.ensures in
    rw (← c.self.view_is) (taken_class _ _ _ c.args.class c.insert_reserved.result c.index_mut-group.result.now c.insert_reserved.new.self c.self.invariant (rw (← c.self.view_is) at c.requires.free)
    c.index_mut-group.ensures.value r.was_vacant r.key_in_range r.capacity)
