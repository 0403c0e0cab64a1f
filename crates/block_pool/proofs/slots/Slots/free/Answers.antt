use Rattle.std.proofs.Common.{rules, ◌≡◌, ◌<◌, ◌≤◌, ◌-◌, ◌^◌, length, sym}
use Rattle.block_pool.specs.Occupied.{group_at}
use Rattle.block_pool.proofs.VacantLemmas.{unknown_class, free_fits}
use Rattle.block_pool.proofs.slots.Slots.free.Goals as goal

pub overflow_cast-result : goal.overflow_cast-result
overflow_cast-result c =
    let known : c.args.class < length c.self.inside.groups.items = search rules in
    let read : c.in-Some.group.now ≡ group_at c.self.inside.groups.items c.args.class = search rules in
    let small : c.capacity.result - c.len.result < 2 ^ 32 = rw (c.capacity.ensures.value, c.len.ensures, read) (free_fits _ _ _ c.args.class c.self.invariant known) in
    search rules

pub returns-in-None : goal.returns-in-None
returns-in-None c =
    let past : length c.self.inside.groups.items ≤ c.args.class = search rules in
    rw (← c.self.view_is) (sym (unknown_class _ _ _ c.args.class c.self.invariant past))
