use Rattle.std.proofs.Common.{rules, ◌≡◌, ◌+◌, ◌<◌, ◌^◌, ◌++◌, [], ◌∷◌, length, replicate, slice_index, arith, ap, ◌∙◌, append_assoc}
use Rattle.std.proofs.lemmas.List.{length_push, drop_more}
use Rattle.block_pool.specs.declared.state.State.TheVariants.{Free}
use Rattle.block_pool.proofs.LaidLemmas.{laid_push, tied_at_first}
use Rattle.block_pool.proofs.slots.Slots.open.Goals as goal

pub loop-at-preserved : goal.loop-at-preserved
loop-at-preserved c =
    let i = c.loop-at.invariant in
    let g = c.in_ok-group.ensures in
    let items : c.push.new.self.items ≡ c.loop-at.groups.items ++ c.in_ok-group.group ∷ [] = c.in_ok-push.ensures.items in
    let added = rw g.count at c.in_ok-add_class.ensures in
    let few : slice_index c.args.counts.now c.loop-at.at < 2 ^ 32 = search rules in
    let first : c.in_ok-group.group.first ≡ length c.loop-at.classes.items = search rules in
    let within : c.loop-at.at < length c.args.counts.now = omega arith in
    let more = laid_push c.loop-at.groups.items c.loop-at.classes.items i.laid c.in_ok-group.group (slice_index c.args.counts.now c.loop-at.at) first g.count g.vacant few in
    record {
      laid = rw (items, added) (rw i.groups at more);
      groups = ap length items ∙ (length_push c.loop-at.groups.items _ ∙ ap (λ n. n + 1) i.groups);
      classes = rw (added, append_assoc) (rw (drop_more c.args.counts.now c.loop-at.at 0 within) at i.classes);
    }

pub invariant_of-result : goal.invariant_of-result
invariant_of-result c =
    let states : c.in_ok-states.states.items ≡ replicate (length c.loop-at.classes.items) Free = search rules in
    rw states (tied_at_first c.loop-at.groups.items c.loop-at.classes.items c.loop-at.invariant.laid)
